-- No slot at the limit or behind it learns anything, and so a prefix is no longer than there are slots.
use Rattle.std.proofs.Common.{◌≡◌, inl, inr, ℕ, zero, suc, ◌+◌, ◌<◌, ◌≤◌, ◌↔◌, ◌⊎◌, Bool, true, false, ◌&&◌, ◌||◌, if◌then◌else◌, IsTrue, Some, List, [], ◌∷◌, ◌++◌, length, refl, sym, ap, subst, ◌∙◌, arith, ne_eqb, ◌==◌}
use Rattle.std.specs.List.{list_any}
use Rattle.std.proofs.lemmas.Bool.{cases_lt}
use Rattle.std.proofs.lemmas.List.{length-append}
use Rattle.std.proofs.lemmas.Option.{slice_get_cases}
use Rattle.ballots.specs.Majority.{tally, IsMajority}
use Rattle.ballots.specs.Ballot.{Ballot, is_same_ballot}
use Rattle.ballots.specs.declared.value.Value.{Value}
use Rattle.ballots.specs.declared.acceptance.Acceptance.{Acceptance}
use Rattle.ballots.specs.declared.message.Body.{Body}
use Rattle.ballots.specs.declared.message.Body.TheVariants as body
use Rattle.acceptor.specs.declared.answer.Answer.{Answer}
use Rattle.acceptor.specs.declared.answer.Answer.TheVariants as answer
use Rattle.learner.specs.Calls.{LearnerCall, slot_of, is_decision_for, is_vote_of, has_voted, IsChosenOrDecided, IsLearned}
use Rattle.learner.specs.Calls as learner_call
use Rattle.learner.specs.State.{LearnerState, decided_at}
use Rattle.learner.specs.Learned.{StateAfter}
use Rattle.agreement_rules.specs.Views.{AgreementConfig, Views, IsFree, HasPrefix}
use Rattle.agreement_rules.specs.Due.{Plan, quietly, also_learns, ReplyToPrepare, ReplyToAccept, PartIsDue}
use Rattle.agreement.specs.State.{AgreementState, Has}
use Rattle.agreement.specs.Step.{BodyGives}

-- a slot has learned a value exactly where one was chosen or decided for it
abbrev pub LearnedWhereSettled : Type 0
LearnedWhereSettled = (members : ℕ) (calls : List LearnerCall) (slot : ℕ) → IsChosenOrDecided members calls slot → (v : Value) × IsLearned members calls slot v

abbrev pub SettledWhereLearned : Type 0
SettledWhereLearned = (members : ℕ) (calls : List LearnerCall) (slot : ℕ) (v : Value) → IsLearned members calls slot v → IsChosenOrDecided members calls slot

-- what a learner holds is what was learned
abbrev pub HeldIsLearned : Type 0
HeldIsLearned = (members : ℕ) (calls : List LearnerCall) (state : LearnerState) (slot : ℕ) (v : Value) → StateAfter members calls state
    → decided_at state slot ≡ Some v ↔ IsLearned members calls slot v

-- ---- a call of another slot

no_decision : (call : LearnerCall) (slot : ℕ) → (slot_of call ≡ slot → ⊥) → is_decision_for slot call ≡ false
no_decision (learner_call.Accepted acceptor s ballot v) slot other = refl
no_decision (learner_call.Decided s v) slot other = ne_eqb s slot other

between_false : (p q r : Bool) → q ≡ false → (p && q && r) ≡ false
between_false true q r e = subst (λ (x : Bool). (true && x && r) ≡ false) (sym e) refl
between_false false q r e = refl

no_vote : (call : LearnerCall) (member slot : ℕ) (ballot : Ballot) → (slot_of call ≡ slot → ⊥) → is_vote_of member slot ballot call ≡ false
no_vote (learner_call.Accepted acceptor s b v) member slot ballot other = between_false (acceptor == member) (s == slot) (is_same_ballot b ballot) (ne_eqb s slot other)
no_vote (learner_call.Decided s v) member slot ballot other = refl

any_before : {X : Type 0} (test : X → Bool) (xs : List X) (y : X) → test y ≡ false → list_any test (xs ++ y ∷ []) ≡ list_any test xs
any_before test [] y e = subst (λ (b : Bool). (b || false) ≡ false) (sym e) refl
any_before test (x ∷ xs) y e = ap (λ (b : Bool). test x || b) (any_before test xs y e)

tally_same : (n : ℕ) (p q : ℕ → Bool) → ((m : ℕ) → p m ≡ q m) → tally n p ≡ tally n q
tally_same zero p q same = refl
tally_same (suc n) p q same =
    subst (λ (b : Bool). (if p n then suc (tally n p) else tally n p) ≡ (if b then suc (tally n q) else tally n q)) (same n)
    (ap (λ (t : ℕ). if p n then suc t else t) (tally_same n p q same))

still_settled : (members : ℕ) (calls : List LearnerCall) (call : LearnerCall) (slot : ℕ) → (slot_of call ≡ slot → ⊥)
    → IsChosenOrDecided members (calls ++ call ∷ []) slot → IsChosenOrDecided members calls slot
still_settled members calls call slot other (inl is) =
    inl (subst IsTrue (any_before (is_decision_for slot) calls call (no_decision call slot other)) is)
still_settled members calls call slot other (inr (ballot, most)) =
    inr (
      ballot,
      subst (IsMajority members)
          (tally_same members (has_voted (calls ++ call ∷ []) slot ballot) (has_voted calls slot ballot)
          (λ m. any_before (is_vote_of m slot ballot) calls call (no_vote call m slot ballot other))) most,
    )

still_free : LearnedWhereSettled → SettledWhereLearned → (members : ℕ) (calls : List LearnerCall) (call : LearnerCall) (slot : ℕ)
    → (slot_of call ≡ slot → ⊥) → IsFree members calls slot → IsFree members (calls ++ call ∷ []) slot
still_free learned settled members calls call slot other free v is =
    let old = learned members calls slot (still_settled members calls call slot other (settled members (calls ++ call ∷ []) slot v is)) in
    free old.0 old.1

-- ---- prefixes

pub free_behind : HeldIsLearned → (state : AgreementState) (views : Views) → Has state views → (slot : ℕ)
    → state.config.slot_limit ≤ slot → IsFree state.config.members views.learner_calls slot
free_behind held state views has slot le v is =
    let some = (held state.config.members views.learner_calls state.learner slot v has.learner_calls).1 is in
    let none = has.beyond slot le in
    let both = sym none ∙ some in cc

no_longer : (members : ℕ) (calls : List LearnerCall) (values : List Value) (limit : ℕ) → IsFree members calls limit
    → HasPrefix members calls values → length values ≤ limit
no_longer members calls values limit free prefix = elim (cases_lt limit (length values)) as (λ _. length values ≤ limit) [
  | inl longer ↦ elim (slice_get_cases values limit).1 as (λ _. length values ≤ limit) [
    | inl there ↦ absurd (free there.0 (prefix.learned limit there.0 there.2))
    | inr past ↦ past.0
  ]
  | inr within ↦ within
]

pub prefix_fits : HeldIsLearned → (state : AgreementState) (views : Views) → Has state views → (values : List Value)
    → HasPrefix state.config.members views.learner_calls values → length values ≤ state.config.slot_limit
prefix_fits held state views has values prefix =
    no_longer state.config.members views.learner_calls values state.config.slot_limit (free_behind held state views has state.config.slot_limit (omega arith)) prefix

-- ---- what a body makes of the calls of the learner

pub prepared : (me : ℕ) (views : Views) (slot : ℕ) (ballot : Ballot) (reply : Answer) (plan : Plan)
    → ReplyToPrepare me views slot ballot reply plan → plan.after.learner_calls ≡ views.learner_calls
prepared me views slot ballot (answer.Promise report) plan is = ap (λ (p : Plan). p.after.learner_calls) is
prepared me views slot ballot (answer.Nack promised) plan is = ap (λ (p : Plan). p.after.learner_calls) is
prepared me views slot ballot answer.Granted plan is = absurd is
prepared me views slot ballot (answer.PromiseFrom reports) plan is = absurd is

pub accepted : (me : ℕ) (views : Views) (slot : ℕ) (proposal : Acceptance) (reply : Answer) (plan : Plan)
    → ReplyToAccept me views slot proposal reply plan → plan.after.learner_calls ≡ views.learner_calls
accepted me views slot proposal (answer.Promise report) plan is = absurd is
accepted me views slot proposal (answer.PromiseFrom reports) plan is = absurd is
accepted me views slot proposal (answer.Nack promised) plan is = ap (λ (p : Plan). p.after.learner_calls) is
accepted me views slot proposal answer.Granted plan is = ap (λ (p : Plan). p.after.learner_calls) is

-- its learner is called once more, for the slot of the message
pub record CallsOnce (views : Views) (slot : ℕ) (plan : Plan) : Type 0 where
  pub call : LearnerCall
  pub of_slot : slot_of call ≡ slot
  pub is : plan ≡ quietly (also_learns views call)

-- or it is not called
pub part_calls : (config : AgreementConfig) (me : ℕ) (views : Views) (sender slot : ℕ) (said : Body) (plan : Plan)
    → PartIsDue config me views sender slot said plan → (plan.after.learner_calls ≡ views.learner_calls) ⊎ CallsOnce views slot plan
part_calls config me views sender slot (body.Prepare ballot) plan due = inl (prepared me views slot ballot due.2 plan due.5)
part_calls config me views sender slot (body.Accept proposal) plan due = inl (accepted me views slot proposal due.2 plan due.5)
part_calls config me views sender slot (body.Promise ballot report) plan due = inl (ap (λ (p : Plan). p.after.learner_calls) due.2)
part_calls config me views sender slot (body.Nack ballot promised) plan due = inl (ap (λ (p : Plan). p.after.learner_calls) due)
part_calls config me views sender slot (body.Accepted acceptance) plan due =
    inr (record { call = learner_call.Accepted sender slot acceptance.ballot acceptance.value; of_slot = refl; is = due })
part_calls config me views sender slot (body.Decided value) plan due =
    inr (record { call = learner_call.Decided slot value; of_slot = refl; is = due })
part_calls config me views sender slot body.Ask plan due = inl (ap (λ (p : Plan). p.after.learner_calls) due.2)

module _ (learned : LearnedWhereSettled) (settled : SettledWhereLearned) (held : HeldIsLearned) (state : AgreementState) (views : Views) (has : Has state views) where
  -- a prefix that calls leave is no longer than there are slots, where the limit has learned nothing of them
  longer_fits : (calls : List LearnerCall) (grown : List Value) → IsFree state.config.members calls state.config.slot_limit → (values : List Value)
      → HasPrefix state.config.members calls (values ++ grown) → length values + length grown ≤ state.config.slot_limit
  longer_fits calls grown free values prefix =
      let limit = state.config.slot_limit in
      subst (λ (n : ℕ). n ≤ limit) (length-append values grown) (no_longer state.config.members calls (values ++ grown) limit free prefix)

  same_fits : (grown values : List Value) → HasPrefix state.config.members views.learner_calls (values ++ grown)
      → length values + length grown ≤ state.config.slot_limit
  same_fits grown values prefix =
      longer_fits views.learner_calls grown (free_behind held state views has state.config.slot_limit (omega arith)) values prefix

  told_fits : (call : LearnerCall) (grown : List Value) → slot_of call < state.config.slot_limit → (values : List Value)
      → HasPrefix state.config.members (views.learner_calls ++ call ∷ []) (values ++ grown)
      → length values + length grown ≤ state.config.slot_limit
  told_fits call grown within values prefix =
      let limit = state.config.slot_limit in
      longer_fits (views.learner_calls ++ call ∷ []) grown
      (still_free learned settled state.config.members views.learner_calls call limit (λ same. absurd (omega (arith, within, same)))
      (free_behind held state views has limit (omega arith))) values prefix

  -- where the calls that a plan leaves are these
  after_calls : (plan : Plan) (calls : List LearnerCall) (values : List Value) → plan.after.learner_calls ≡ calls
      → HasPrefix state.config.members plan.after.learner_calls values → HasPrefix state.config.members calls values
  after_calls plan calls values is prefix = subst (λ (l : List LearnerCall). HasPrefix state.config.members l values) is prefix

  -- by what a body makes the prefix grow it is no longer than there are slots
  pub body_fits : (me : ℕ) (seen : Views) (sender slot : ℕ) (said : Body) (plan : Plan) (grown : List Value)
      → seen.learner_calls ≡ views.learner_calls → slot < state.config.slot_limit
      → BodyGives state.config me seen sender slot said plan grown → (values : List Value)
      → HasPrefix state.config.members views.learner_calls values → length values + length grown ≤ state.config.slot_limit
  body_fits me seen sender slot said plan grown same within gives values prefix =
      let longer = gives.1 values (subst (λ (l : List LearnerCall). HasPrefix state.config.members l values) (sym same) prefix) in
      elim (part_calls state.config me seen sender slot said plan gives.0) as (λ _. length values + length grown ≤ state.config.slot_limit) [
        | inl none ↦ same_fits grown values (after_calls plan views.learner_calls (values ++ grown) (none ∙ same) longer)
        | inr once ↦ told_fits once.call grown (subst (λ (s : ℕ). s < state.config.slot_limit) (sym once.of_slot) within) values
            (after_calls plan (views.learner_calls ++ once.call ∷ []) (values ++ grown)
            (ap (λ (p : Plan). p.after.learner_calls) once.is ∙ ap (λ (l : List LearnerCall). l ++ once.call ∷ []) same) longer)
      ]
