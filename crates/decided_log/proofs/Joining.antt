-- What an insert does to the two parts of a log.
use Rattle.std.proofs.Common.{◌≡◌, ◌≢◌, ℕ, ◌<◌, nat_eq, List, [], ◌∷◌, ◌++◌, length, slice_get, Option, Some, None, refl, ◌∙◌, ap, arith, inl, inr, suc}
use Rattle.std.specs.Map.{lookup}
use Rattle.std.proofs.lemmas.Option.{slice_get_past, slice_get_cases}
use Rattle.ballots.specs.declared.value.Value.{Value}
use Rattle.decided_log.specs.Decided.{Inserts, IsSame}
use Rattle.decided_log.specs.LogState.{found}
use Rattle.decided_log.specs.Keeping.{Joins}

-- a list with one more value, at its end and before it
pub push_at : (xs : List Value) (value : Value) → slice_get (xs ++ value ∷ []) (length xs) ≡ Some value
push_at [] value = refl
push_at (x ∷ xs) value = push_at xs value

pub push_other : (xs : List Value) (value : Value) (slot : ℕ) → slot ≢ length xs → slice_get (xs ++ value ∷ []) slot ≡ slice_get xs slot
push_other [] value Prim.Native.Nat.zero apart = absurd (apart refl)
push_other [] value (suc slot) apart = refl
push_other (x ∷ xs) value Prim.Native.Nat.zero apart = refl
push_other (x ∷ xs) value (suc slot) apart = push_other xs value slot (λ same. apart (ap suc same))

-- where that slot has no value, it has this one then
pub pushed : (prefix : List Value) (later : List (ℕ × Value)) (value : Value) → lookup (nat_eq (length prefix)) later ≡ None → Inserts (found prefix later) (found (prefix ++ value ∷ []) later) (length prefix) value
pushed prefix later value gap =
    let at_end : slice_get prefix (length prefix) ≡ None = slice_get_past prefix (length prefix) (omega arith) in
    record {
      kept = rw (push_at prefix value, at_end, gap) refl;
      others = λ other apart. rw (push_other prefix value other apart) refl;
    }

-- and so it is where values go to the prefix afterwards
pub then_same : (old between new : ℕ → Option Value) (slot : ℕ) (value : Value) → Inserts old between slot value → IsSame between new → Inserts old new slot value
then_same old between new slot value step same = record {
  kept = same slot ∙ step.kept;
  others = λ other apart. same other ∙ step.others other apart;
}

-- both, as the code does them
pub joined : (prefix longer now : List Value) (later later-now : List (ℕ × Value)) (slot : ℕ) (value : Value) → longer ≡ prefix ++ value ∷ [] → slot ≡ length prefix → lookup (nat_eq (length prefix)) later ≡ None → Joins longer now later later-now → Inserts (found prefix later) (found now later-now) slot value
joined prefix longer now later later-now slot value longer_is at gap joins =
    rw at
    (then_same (found prefix later) (found longer later) (found now later-now) (length prefix) value
    (rw longer_is (pushed prefix later value gap))
    joins.same)

-- a slot of the prefix has a value, and keeps it
pub in_prefix : (prefix : List Value) (later : List (ℕ × Value)) (slot : ℕ) (value : Value) → slot < length prefix → Inserts (found prefix later) (found prefix later) slot value
in_prefix prefix later slot value within = record {
  kept = elim (slice_get_cases prefix slot).1 [
    | inl there ↦ rw there.2 refl
    | inr past ↦ absurd (omega arith)
  ];
  others = λ other apart. refl;
}
