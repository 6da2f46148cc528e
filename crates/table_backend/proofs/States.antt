-- What is held behind a put.
use Rattle.std.proofs.Common.{◌≡◌, ◌⊎◌, ◌<◌, ◌≤◌, ℕ, List, ◌∷◌, [], ◌++◌, Result, Ok, Err, OnOk, subst, sym, ap, inl, inr}
use Rattle.ballots.specs.declared.value.Value.{Value}
use Rattle.ballots.specs.declared.value.Value.TheVariants as agreed
use Rattle.table_types.specs.Uploads.{Upload}
use Rattle.table_types.specs.Tables.{Outcome, applied, mismatched, conflicting, unknown}
use Rattle.table_versions.specs.Outcomes.{told}
use Rattle.table_versions.specs.State.{TablesState, HasTaken, IsSame}
use Rattle.table_versions.specs.declared.outcome.Outcome.{Outcome as Told}
use Rattle.table_versions.specs.declared.outcome.Outcome.TheVariants as answers
use Rattle.call_protocol.specs.declared.back_fault.BackFault.{BackFault}
use Rattle.call_protocol.specs.declared.back_fault.BackFault.TheVariants as faults
use Rattle.table_backend.specs.Backing.{BackendState, Takes, IsFull, IsUnknown, PutFault}

-- an upload of whose id nothing had come is taken
pub unknown_is_taken : (outcome : Outcome) (text : List ℕ) (slots : ℕ) (x y : TablesState) → outcome ≡ unknown → x.taken < slots
    → ((values : List Value) → HasTaken x values → HasTaken y (values ++ agreed.Upload text ∷ [])) → Takes outcome text slots x y
unknown_is_taken unknown text slots x y is room takes = (room, takes)
unknown_is_taken (applied version) text slots x y is room takes = absurd cc
unknown_is_taken mismatched text slots x y is room takes = absurd cc
unknown_is_taken conflicting text slots x y is room takes = absurd cc

pub on_ok : {T E : Type 0} {P Q : Type 0} (r : Result T E) → (P → Q) → OnOk r P → OnOk r Q
on_ok (Ok x) f p = f p
on_ok (Err e) f p = tt

same_tables : (x y : TablesState) → y ≡ x → IsSame x y
same_tables x y e = record {
  firsts = ap (λ (t : TablesState). t.firsts) e;
  tables = ap (λ (t : TablesState). t.tables) e;
  frames = ap (λ (t : TablesState). t.frames) e;
  taken = ap (λ (t : TablesState). t.taken) e;
}

-- of one of which something is known nothing is taken
pub known_is_kept : (outcome : Outcome) (result : Told) (text : List ℕ) (slots : ℕ) (x y : TablesState) → told result ≡ outcome
    → ((version : ℕ) × (result ≡ answers.Applied version)) ⊎ (result ≡ answers.SchemaMismatch) ⊎ (result ≡ answers.Conflict) → y ≡ x
    → Takes outcome text slots x y
known_is_kept outcome result text slots x y is known same = subst (λ o. Takes o text slots x y) is kept
  where
    kept : Takes (told result) text slots x y
    kept =
        elim known [
          | inl version ↦ subst (λ r. Takes (told r) text slots x y) (sym version.1) (same_tables x y same)
          | inr other ↦
              elim other [
                | inl e ↦ subst (λ r. Takes (told r) text slots x y) (sym e) (same_tables x y same)
                | inr e ↦ subst (λ r. Takes (told r) text slots x y) (sym e) (same_tables x y same)
              ]
        ]

pub on_ok_both : {T E : Type 0} {P Q R : Type 0} (r : Result T E) → (P → Q → R) → OnOk r P → OnOk r Q → OnOk r R
on_ok_both (Ok x) f p q = f p q
on_ok_both (Err e) f p q = tt

-- it is refused where the tables are full, which are those that the state held, or memory was refused
pub put_fault : (old mid : BackendState) (uploads : List Upload) (text : List ℕ) (fault : BackFault) → mid.tables ≡ old.tables → mid.slots ≡ old.slots → IsUnknown uploads text
    → (IsFull mid × (fault ≡ faults.SlotsSpent)) ⊎ (fault ≡ faults.OutOfMemory) → PutFault old uploads text fault
put_fault old mid uploads text fault tables slots new (inl full) =
    inl (subst (λ t. (old.slots ≤ t.taken) ⊎ (1000000 ≤ t.taken)) tables (subst (λ n. (n ≤ mid.tables.taken) ⊎ (1000000 ≤ mid.tables.taken)) slots full.0), new, full.1)
put_fault old mid uploads text fault tables slots new (inr memory) = inr memory
