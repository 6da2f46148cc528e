-- Which slots are free, counted by what a learner holds.
use Rattle.std.proofs.Common.{◌≡◌, inl, inr, ℕ, zero, suc, ◌+◌, ◌-◌, ◌<◌, ◌≤◌, ◌↔◌, Bool, true, false, if◌then◌else◌, IsTrue, Option, None, Some, List, length, refl, sym, ap, subst, ◌∙◌, arith}
use Rattle.std.proofs.lemmas.Option.{slice_get_cases}
use Rattle.ballots.specs.Majority.{tally}
use Rattle.ballots.specs.declared.value.Value.{Value}
use Rattle.learner.specs.Calls.{LearnerCall, IsLearned}
use Rattle.learner.specs.State.{decided_at}
use Rattle.agreement_rules.specs.Views.{Views, IsFree, HasPrefix}
use Rattle.agreement.specs.State.{AgreementState, Has}
use Rattle.node_core.specs.Plans.{IsSlotLeft}
use Rattle.node_core.proofs.Within.{HeldIsLearned, free_behind}

abbrev is_nothing : Option Value → Bool
is_nothing None = true
is_nothing (Some value) = false

-- the learner holds nothing for the slot
abbrev pub free_at : AgreementState → ℕ → Bool
free_at state slot = is_nothing (decided_at state.learner slot)

nothing_is_free : (members : ℕ) (told : List LearnerCall) (slot : ℕ) (held : Option Value)
    → ((v : Value) → held ≡ Some v ↔ IsLearned members told slot v) → IsTrue (is_nothing held) ↔ IsFree members told slot
nothing_is_free members told slot None iff = ((λ is v learned. let some = (iff v).1 learned in cc), (λ free. refl))
nothing_is_free members told slot (Some v) iff = ((λ is. cc), (λ free. absurd (free v ((iff v).0 refl))))

module _ (held : HeldIsLearned) (state : AgreementState) (views : Views) (has : Has state views) where
  pub tells_free : (slot : ℕ) → IsTrue (free_at state slot) ↔ IsFree state.config.members views.learner_calls slot
  tells_free slot = nothing_is_free state.config.members views.learner_calls slot (decided_at state.learner slot)
      (λ v. held state.config.members views.learner_calls state.learner slot v has.learner_calls)

  -- no slot of a prefix is free
  pub taken_before : (values : List Value) → HasPrefix state.config.members views.learner_calls values → (slot : ℕ) → slot < length values
      → free_at state slot ≡ false
  taken_before values prefix slot within = elim (slice_get_cases values slot).1 as (λ _. free_at state slot ≡ false) [
    | inl there ↦
        let some = (held state.config.members views.learner_calls state.learner slot there.0 has.learner_calls).1 (prefix.learned slot there.0 there.2) in
        ap is_nothing some
    | inr past ↦ absurd (omega (arith, past.0, within))
  ]

  -- every slot at the limit or behind it is
  pub free_after : (slot : ℕ) → state.config.slot_limit ≤ slot → free_at state slot ≡ true
  free_after slot le = ap is_nothing (has.beyond slot le)

  pub is_slot_left : (left slot : ℕ) → slot < state.config.slot_limit → IsFree state.config.members views.learner_calls slot
      → tally slot (free_at state) ≡ left → IsSlotLeft state.config views left (Some slot)
  is_slot_left left slot within free below =
      (within, record { free = free; is_free = free_at state; tells = λ other lt. tells_free other; below = below })

tally_none : (n : ℕ) (test : ℕ → Bool) → ((m : ℕ) → m < n → test m ≡ false) → tally n test ≡ 0
tally_none zero test none = refl
tally_none (suc n) test none =
    subst (λ (b : Bool). (if b then suc (tally n test) else tally n test) ≡ 0) (sym (none n (omega arith)))
    (tally_none n test (λ m lt. none m (omega (arith, lt))))

tally_more : (n k m : ℕ) → m ≡ n + k → (test : ℕ → Bool) → ((s : ℕ) → n ≤ s → test s ≡ true) → tally m test ≡ tally n test + k
tally_more n zero m is test all =
    let same : m ≡ n = omega (arith, is) in
    let none : tally n test ≡ tally n test + 0 = omega arith in
    ap (λ (x : ℕ). tally x test) same ∙ none
tally_more n (suc k) m is test all =
    let next : m ≡ suc (n + k) = omega (arith, is) in
    let one : suc (tally n test + k) ≡ tally n test + suc k = omega arith in
    subst (λ (x : ℕ). tally x test ≡ tally n test + suc k) (sym next)
    (subst (λ (b : Bool). (if b then suc (tally (n + k) test) else tally (n + k) test) ≡ tally n test + suc k) (sym (all (n + k) (omega arith)))
    (ap suc (tally_more n k (n + k) refl test all) ∙ one))

-- none is free before the first
pub none_passed : HeldIsLearned → (state : AgreementState) (views : Views) → Has state views → (values : List Value)
    → HasPrefix state.config.members views.learner_calls values → (first : ℕ) → first ≡ length values → tally first (free_at state) ≡ 0
none_passed held state views has values prefix first is =
    tally_none first (free_at state) (λ m lt. taken_before held state views has values prefix m (subst (λ (n : ℕ). m < n) is lt))

-- one more
pub one_passed : (state : AgreementState) (slot passed : ℕ) → tally slot (free_at state) ≡ passed → free_at state slot ≡ true
    → tally (suc slot) (free_at state) ≡ suc passed
one_passed state slot passed count free =
    subst (λ (b : Bool). (if b then suc (tally slot (free_at state)) else tally slot (free_at state)) ≡ suc passed) (sym free) (ap suc count)

pub not_passed : (state : AgreementState) (slot passed : ℕ) → tally slot (free_at state) ≡ passed → free_at state slot ≡ false
    → tally (suc slot) (free_at state) ≡ passed
not_passed state slot passed count taken =
    subst (λ (b : Bool). (if b then suc (tally slot (free_at state)) else tally slot (free_at state)) ≡ passed) (sym taken) count

-- where fewer are free below the limit, the slot would be behind it
pub none_is_left : HeldIsLearned → (state : AgreementState) (views : Views) → Has state views → (left number passed : ℕ)
    → state.config.slot_limit ≤ number → passed ≤ left → tally number (free_at state) ≡ passed → IsSlotLeft state.config views left None
none_is_left held state views has left number passed past most count =
    let slot = number + (left - passed) in
    let behind : state.config.slot_limit ≤ slot = omega (arith, past) in
    let sum = tally_more number (left - passed) slot refl (free_at state) (λ m le. free_after held state views has m (omega (arith, past, le))) in (
      slot,
      behind,
      record {
        free = free_behind held state views has slot behind;
        is_free = free_at state;
        tells = λ other lt. tells_free held state views has other;
        below = sum ∙ (ap (λ (n : ℕ). n + (left - passed)) count ∙ omega (arith, most));
      },
    )

-- ---- the walk

-- so many slots below this one are free
abbrev pub Passed : AgreementState → ℕ → ℕ → Type 0
Passed state number passed =
    (views : Views) (values : List Value) → Has state views → HasPrefix state.config.members views.learner_calls values
    → tally number (free_at state) ≡ passed

-- what is told of one slot
abbrev pub TellsOf : AgreementState → ℕ → Bool → Type 0
TellsOf state slot answer = (views : Views) → Has state views → IsTrue answer ↔ IsFree state.config.members views.learner_calls slot

pub goes_past : HeldIsLearned → (state : AgreementState) (number slot passed : ℕ) (answer : Bool) → slot ≡ number → TellsOf state slot answer
    → answer ≡ true → Passed state number passed → Passed state (number + 1) (passed + 1)
goes_past held state number slot passed answer is tells holds count views values has prefix =
    let free = (tells_free held state views has slot).1 ((tells views has).0 holds) in
    let at = subst (λ (n : ℕ). free_at state n ≡ true) is free in
    let one : number + 1 ≡ suc number = omega arith in
    let more : passed + 1 ≡ suc passed = omega arith in
    subst (λ (n : ℕ). tally n (free_at state) ≡ passed + 1) (sym one) (one_passed state number passed (count views values has prefix) at ∙ sym more)

false_if : (b : Bool) → (b ≡ true → ⊥) → b ≡ false
false_if true not = absurd (not refl)
false_if false not = refl

pub stays_past : HeldIsLearned → (state : AgreementState) (number slot passed : ℕ) (answer : Bool) → slot ≡ number → TellsOf state slot answer
    → answer ≡ false → Passed state number passed → Passed state (number + 1) passed
stays_past held state number slot passed answer is tells fails count views values has prefix =
    let taken = false_if (free_at state slot) (λ holds. let told : answer ≡ true = (tells views has).1 ((tells_free held state views has slot).0 holds) in cc) in
    let at = subst (λ (n : ℕ). free_at state n ≡ false) is taken in
    let one : number + 1 ≡ suc number = omega arith in
    subst (λ (n : ℕ). tally n (free_at state) ≡ passed) (sym one) (not_passed state number passed (count views values has prefix) at)

pub this_one : HeldIsLearned → (state : AgreementState) (number slot passed left : ℕ) (answer : Bool) → slot ≡ number → TellsOf state slot answer
    → answer ≡ true → number < state.config.slot_limit → passed ≡ left → Passed state number passed → (views : Views) (values : List Value)
    → Has state views → HasPrefix state.config.members views.learner_calls values → IsSlotLeft state.config views left (Some slot)
this_one held state number slot passed left answer is tells holds within enough count views values has prefix =
    let below = subst (λ (n : ℕ). tally n (free_at state) ≡ passed) (sym is) (count views values has prefix) in
    is_slot_left held state views has left slot (subst (λ (n : ℕ). n < state.config.slot_limit) (sym is) within) ((tells views has).0 holds) (below ∙ enough)

pub past_all : HeldIsLearned → (state : AgreementState) (number passed left : ℕ) → state.config.slot_limit ≤ number → passed ≤ left
    → Passed state number passed → (views : Views) (values : List Value) → Has state views
    → HasPrefix state.config.members views.learner_calls values → IsSlotLeft state.config views left None
past_all held state number passed left past most count views values has prefix =
    none_is_left held state views has left number passed past most (count views values has prefix)
