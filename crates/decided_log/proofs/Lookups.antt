-- Look-ups by slot: prefixes, and the look-up in the two parts of a log.
use Rattle.std.proofs.Common.{◌≡◌, ◌≢◌, ℕ, suc, ap, ◌<◌, ◌≤◌, nat_eq, true, false, List, [], ◌∷◌, ◌++◌, length, Option, Some, None, Result, Ok, Err, IsOk, OnOk, IfOk, OnErr, cond, eq-eqb, refl, sym, ◌∙◌, arith, inl, inr}
use Rattle.std.specs.Option.{option_or, is_some}
use Rattle.std.specs.Map.{lookup}
use Rattle.std.proofs.lemmas.Option.{slice_get_cases, slice_get-get_or, same_Some}
use Rattle.std.proofs.lemmas.List.{same_lists}
use Rattle.std.proofs.lemmas.Bool.Decides.{eqb_tells}
use Rattle.ballots.specs.declared.value.Value.{Value}
use Rattle.decided_log.specs.Decided.{Inserts, Holds, IsPrefix}

-- the test by which another slot is found doesn't pass
pub apart_is_false : (slot other : ℕ) → other ≢ slot → nat_eq slot other ≡ false
apart_is_false slot other apart = elim (eqb_tells slot other) [ inl same ↦ absurd (apart (sym same.1)) | inr differs ↦ differs.0 ]

-- ---- prefixes

no_longer : (at : ℕ → Option Value) (xs ys : List Value) → IsPrefix at xs → IsPrefix at ys → length ys ≤ length xs
no_longer at xs ys x y =
    elim (slice_get_cases ys (length xs)).1 [
      | inl there ↦ (let held = y.held (length xs) there.1 in let gap = x.gap in let some = there.2 in absurd (cc (held, gap, some)))
      | inr past ↦ past.0
    ]

pub one_prefix : (at : ℕ → Option Value) (xs ys : List Value) → IsPrefix at xs → IsPrefix at ys → xs ≡ ys
one_prefix at xs ys x y =
    let no_more : length ys ≤ length xs = no_longer at xs ys x y in
    let no_less : length xs ≤ length ys = no_longer at ys xs y x in
    let same : length xs ≡ length ys = omega arith in
    same_lists xs ys same (λ k d within.
    let there : k < length ys = omega arith in
    same_Some _ _ (sym (slice_get-get_or xs k d within) ∙ sym (x.held k within) ∙ y.held k there ∙ slice_get-get_or ys k d there))

-- where all that had a value keep it, the prefix only grows
shorter : (at : ℕ → Option Value) (x : Value) (xs : List Value) → IsPrefix at (x ∷ xs) → IsPrefix (λ slot. at (suc slot)) xs
shorter at x xs is = record { held = λ slot within. is.held (suc slot) (omega (arith, within)); gap = is.gap }

pub grown : (old new : ℕ → Option Value) (xs ys : List Value) → ((slot : ℕ) (value : Value) → old slot ≡ Some value → new slot ≡ Some value)
    → IsPrefix old xs → IsPrefix new ys → (more : List Value) × (ys ≡ xs ++ more)
grown old new [] ys keeps x y = (ys, refl)
grown old new (v ∷ xs) [] keeps x y = absurd (let some = keeps 0 v (x.held 0 (omega arith)) in let none = y.gap in cc (some, none))
grown old new (v ∷ xs) (w ∷ ys) keeps x y =
    let first : Some w ≡ Some v = sym (y.held 0 (omega arith)) ∙ keeps 0 v (x.held 0 (omega arith)) in
    let rest = grown (λ slot. old (suc slot)) (λ slot. new (suc slot)) xs ys (λ slot value had. keeps (suc slot) value had) (shorter old v xs x) (shorter new w ys y) in
    (rest.0, ap (λ (u : Value). u ∷ ys) (same_Some w v first) ∙ ap (λ (l : List Value). v ∷ l) rest.1)

-- ---- inserts

-- a slot that has a value keeps it
pub had : (o : Option Value) (value : Value) → true ≡ is_some o → o ≡ option_or o (Some value)
had (Some v) value some = refl
had None value some = absurd (cc some)

-- and one that has none takes the value
pub had_none : (o : Option Value) (value : Value) → false ≡ is_some o → Some value ≡ option_or o (Some value)
had_none (Some v) value none = absurd (cc none)
had_none None value none = refl

push_first : (inserts : List (ℕ × Value)) (slot : ℕ) (value : Value) → lookup (nat_eq slot) (inserts ++ (slot, value) ∷ []) ≡ option_or (lookup (nat_eq slot) inserts) (Some value)
push_first [] slot value = rw (eq-eqb slot slot refl) refl
push_first (e ∷ es) slot value = elim (nat_eq slot e.0) as (λ b. cond b (Some e.1) (lookup (nat_eq slot) (es ++ (slot, value) ∷ [])) ≡ option_or (cond b (Some e.1) (lookup (nat_eq slot) es)) (Some value)) [ true ↦ refl | false ↦ push_first es slot value ]

push_apart : (inserts : List (ℕ × Value)) (slot other : ℕ) (value : Value) → other ≢ slot → lookup (nat_eq other) (inserts ++ (slot, value) ∷ []) ≡ lookup (nat_eq other) inserts
push_apart [] slot other value apart = rw (apart_is_false other slot (λ same. apart (sym same))) refl
push_apart (e ∷ es) slot other value apart = elim (nat_eq other e.0) as (λ b. cond b (Some e.1) (lookup (nat_eq other) (es ++ (slot, value) ∷ [])) ≡ cond b (Some e.1) (lookup (nat_eq other) es)) [ true ↦ refl | false ↦ push_apart es slot other value apart ]

-- a slot that has a value keeps it, whatever is inserted
pub keeps_value : (old new : ℕ → Option Value) (slot : ℕ) (value : Value) → Inserts old new slot value → (other : ℕ) (held : Value) → old other ≡ Some held → new other ≡ Some held
keeps_value old new slot value step other held is = elim (eqb_tells other slot) as (λ _. new other ≡ Some held) [
  | inl here ↦ (let was : old slot ≡ Some held = ap old (sym here.1) ∙ is in ap new here.1 ∙ step.kept ∙ ap (λ (o : Option Value). option_or o (Some value)) was)
  | inr apart ↦ step.others other apart.1 ∙ is
]

-- what a list of inserts gives with one more, for that one's slot and for another
pub one_insert : (inserts : List (ℕ × Value)) (before after : Option Value) (slot : ℕ) (value : Value) → before ≡ lookup (nat_eq slot) inserts
    → after ≡ lookup (nat_eq slot) (inserts ++ (slot, value) ∷ []) → after ≡ option_or before (Some value)
one_insert inserts before after slot value was is = is ∙ push_first inserts slot value ∙ ap (λ (o : Option Value). option_or o (Some value)) (sym was)

pub no_insert : (inserts : List (ℕ × Value)) (before after : Option Value) (slot other : ℕ) (value : Value) → other ≢ slot → before ≡ lookup (nat_eq other) inserts
    → after ≡ lookup (nat_eq other) (inserts ++ (slot, value) ∷ []) → after ≡ before
no_insert inserts before after slot other value apart was is = is ∙ push_apart inserts slot other value apart ∙ sym was

-- one insert more after a list of them
pub one_more : (old new : ℕ → Option Value) (slot : ℕ) (value : Value) → Inserts old new slot value → (inserts : List (ℕ × Value)) → Holds inserts old → Holds (inserts ++ (slot, value) ∷ []) new
one_more old new slot value step inserts holds other = elim (eqb_tells other slot) [
  | inl here ↦ rw (here.1, step.kept, holds slot, push_first inserts slot value) refl
  | inr apart ↦ rw (step.others other apart.1, holds other, push_apart inserts slot other value apart.1) refl
]

-- what a call gave that came to its end well
pub on_ok : {T E : Type 0} {P : Type 0} (r : Result T E) → IsOk r → OnOk r P → P
on_ok (Ok x) ok holds = holds
on_ok (Err e) ok holds = cc ok

-- what holds of what a call gave, and after its error
pub if_ok : {T E : Type 0} {P Q : T → Type 0} (r : Result T E) → ((x : T) → P x → Q x) → IfOk r P → IfOk r Q
if_ok (Ok x) step holds = step x holds
if_ok (Err e) step holds = tt

pub on_err : {T E : Type 0} {P Q : Type 0} (r : Result T E) → (P → Q) → OnErr r P → OnErr r Q
on_err (Ok x) step holds = tt
on_err (Err e) step holds = step holds

pub on_any_err : {T E : Type 0} {Q : Type 0} (r : Result T E) → Q → OnErr r Q
on_any_err (Ok x) holds = tt
on_any_err (Err e) holds = holds
