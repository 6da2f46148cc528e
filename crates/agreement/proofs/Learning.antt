-- What a node learns of what it is told is what is due.
use Rattle.std.proofs.Common.{◌≡◌, ℕ, ◌<◌, Bool, cond, nat_eq, Option, None, Some, List, [], ◌∷◌, ◌++◌, refl, sym, ap, subst, ◌∙◌, eq-eqb, ne_eqb, inl, inr}
use Rattle.std.specs.Option.{option_or}
use Rattle.std.proofs.lemmas.List.{append-nil}
use Rattle.std.proofs.lemmas.Bool.{cases_eq}
use Rattle.ballots.specs.Slots.{OthersStay}
use Rattle.ballots.specs.declared.value.Value.{Value}
use Rattle.ballots.specs.declared.acceptance.Acceptance.{Acceptance}
use Rattle.ballots.specs.declared.message.Body.TheVariants as body
use Rattle.learner.specs.Calls.{LearnerCall, slot_of, Learns}
use Rattle.learner.specs.Calls as learner_call
use Rattle.learner.specs.State.{LearnerState, decided_at as learned_at, HasRoomToLearn, HasRoomForVote}
use Rattle.learner.specs.Learned.{StateAfter as LearnerAfter, HasLearned, IsSame as LearnerStays}
use Rattle.learner.specs.Changes.{LearnsNow, DecidedNow}
use Rattle.decided_log.specs.Decided.{IsPrefix, IsSame as LogStays}
use Rattle.decided_log.specs.LogState.{LogState, decided_at}
use Rattle.agreement_rules.specs.Views.{AgreementConfig, Views}
use Rattle.agreement.specs.declared.step.Change.{Change}
use Rattle.agreement.specs.declared.step.Change.TheVariants.{Accepted, Decided}
use Rattle.agreement.specs.declared.step.AgreementStep.{AgreementStep as Step}
use Rattle.agreement.specs.State.{AgreementState, Has}
use Rattle.agreement.specs.Step.{Gains, Grows, StepIsDue, StaysAsItWas, HasRoomForLearned, CanCountVote, CanLearn, learner_calls_with}
use Rattle.agreement.proofs.Answering.{plan_is}
use Rattle.agreement.proofs.Knowing.{known_of_prefix, prefix_of_known}

-- ---- looks

abbrev pub looked : AgreementState → LearnerState → LogState → AgreementState
looked a learner log = record {
  me = a.me;
  config = a.config;
  seen_round = a.seen_round;
  acceptor = a.acceptor;
  proposer = a.proposer;
  learner = learner;
  log = log;
}

-- a look is no call
abbrev pub LooksAreNoCalls : Type 0
LooksAreNoCalls = (members : ℕ) (calls : List LearnerCall) (old new : LearnerState) → LearnerStays old new → LearnerAfter members calls old → LearnerAfter members calls new

pub learner_stays : (l : LearnerState) → LearnerStays l l
learner_stays l = record { members = refl; decided = λ s. refl; votes = λ s b m. refl; firsts = λ s b. refl }

pub stays_on_look : LooksAreNoCalls → (a : AgreementState) (learner : LearnerState) (log : LogState) → LearnerStays a.learner learner → LogStays (decided_at a.log) (decided_at log)
    → log.node ≡ a.log.node → StaysAsItWas a (looked a learner log)
stays_on_look looks a learner log learner-stays log-stays node = λ views has. record {
  restored = has.restored;
  begun = has.begun;
  first_round = has.first_round;
  proposer_calls = has.proposer_calls;
  learner_calls = looks a.config.members views.learner_calls a.learner learner learner-stays has.learner_calls;
  logged = λ slot. log-stays slot ∙ has.logged slot ∙ sym (learner-stays.decided slot);
  log_is = node ∙ has.log_is;
  beyond = λ slot le. learner-stays.decided slot ∙ has.beyond slot le;
  seen = has.seen;
  slots = has.slots;
}

-- ---- by which values the prefix grows

-- the log's prefix grows by these values where the slot gets this
abbrev pub GrowsLog : (ℕ → Option Value) → ℕ → Option Value → List Value → Type 0
GrowsLog at slot learned grown =
    (prefix : List Value) (after : ℕ → Option Value) → IsPrefix at prefix → after slot ≡ option_or (at slot) learned → OthersStay at after slot → IsPrefix after (prefix ++ grown)

-- one call more adds what its slot learns
abbrev pub CallAdds : Type 0
CallAdds = (members : ℕ) (calls : List LearnerCall) (call : LearnerCall) (learned : Option Value) (old new : ℕ → Option Value) → HasLearned members calls old
    → Learns members calls call (slot_of call) learned → new (slot_of call) ≡ option_or (old (slot_of call)) learned → OthersStay old new (slot_of call)
    → HasLearned members (calls ++ call ∷ []) new

-- where the slot gets nothing, the prefix is as it was
or_none : (o : Option Value) → option_or o None ≡ o
or_none None = refl
or_none (Some v) = refl

pub grows_by_none : (at : ℕ → Option Value) (slot : ℕ) → GrowsLog at slot None []
grows_by_none at slot prefix after is here others =
    let same : (s : ℕ) → after s ≡ at s = λ s. elim (cases_eq s slot) as (λ _. after s ≡ at s) [
      | inl e ↦ subst (λ (x : ℕ). after x ≡ at x) (sym e) (here ∙ or_none (at slot))
      | inr apart ↦ others s apart
    ] in
    subst (IsPrefix after) (sym (append-nil prefix)) (record {
      held = λ s within. same s ∙ is.held s within;
      gap = same _ ∙ is.gap;
    })

abbrev or_at : (ℕ → Option Value) → ℕ → Option Value → ℕ → Option Value
or_at at slot learned s = cond (nat_eq s slot) (option_or (at s) learned) (at s)

grows_of_log : CallAdds → (members : ℕ) (calls : List LearnerCall) (call : LearnerCall) (learned : Option Value) (at : ℕ → Option Value) (grown : List Value) → HasLearned members calls at
    → Learns members calls call (slot_of call) learned → GrowsLog at (slot_of call) learned grown → Grows members calls (calls ++ call ∷ []) grown
grows_of_log adds members calls call learned at grown knows learns grows = λ values prefix.
    let here : or_at at (slot_of call) learned (slot_of call) ≡ option_or (at (slot_of call)) learned =
    ap (λ (b : Bool). cond b (option_or (at (slot_of call)) learned) (at (slot_of call))) (eq-eqb (slot_of call) (slot_of call) refl) in
    let others : OthersStay at (or_at at (slot_of call) learned) (slot_of call) =
    λ s apart. ap (λ (b : Bool). cond b (option_or (at s) learned) (at s)) (ne_eqb s (slot_of call) apart) in
    prefix_of_known members (calls ++ call ∷ []) (or_at at (slot_of call) learned) (adds members calls call learned at (or_at at (slot_of call) learned) knows learns here others) (values ++ grown)
    (grows values (or_at at (slot_of call) learned) (known_of_prefix members calls at knows values prefix) here others)

pub grows_there : CallAdds → (members : ℕ) (calls : List LearnerCall) (call : LearnerCall) (slot : ℕ) (learned : Option Value) (at : ℕ → Option Value) (grown : List Value) → HasLearned members calls at
    → slot_of call ≡ slot → Learns members calls call slot learned → GrowsLog at slot learned grown → Grows members calls (calls ++ call ∷ []) grown
grows_there adds members calls call slot learned at grown knows there learns grows =
    grows_of_log adds members calls call learned at grown knows
    (subst (λ (s : ℕ). Learns members calls call s learned) (sym there) learns) (subst (λ (s : ℕ). GrowsLog at s learned grown) (sym there) grows)

-- ---- what is due

module _ (old mid : AgreementState) (seen sender slot : ℕ) (learned : Option Value) (grown : List Value) (step : Step) (config : mid.config ≡ old.config) (stays : StaysAsItWas old mid)
    (grows : (views : Views) (call : LearnerCall) → Has mid views → slot_of call ≡ slot → Learns mid.config.members views.learner_calls call slot learned
    → Grows mid.config.members views.learner_calls (views.learner_calls ++ call ∷ []) grown) where
  told_grows : (views : Views) (call : LearnerCall) → Has old views → slot_of call ≡ slot → Learns old.config.members views.learner_calls call slot learned → step.grown.items ≡ grown
      → Grows old.config.members views.learner_calls (views.learner_calls ++ call ∷ []) step.grown.items
  told_grows views call has there learns is =
      let members : mid.config.members ≡ old.config.members = ap (λ (x : AgreementConfig). x.members) config in
      subst (λ (l : List Value). Grows old.config.members views.learner_calls (views.learner_calls ++ call ∷ []) l) (sym is)
      (subst (λ (m : ℕ). Grows m views.learner_calls (views.learner_calls ++ call ∷ []) grown) members
      (grows views call (stays views has) there (subst (λ (m : ℕ). Learns m views.learner_calls call slot learned) (sym members) learns)))

  pub accepted_gives : (acceptance : Acceptance) → ((views : Views) → Has old views → Learns old.config.members views.learner_calls (learner_call.Accepted sender slot acceptance.ballot acceptance.value) slot learned)
      → Gains step grown seen (Accepted sender slot acceptance learned) → StepIsDue old seen sender slot (body.Accepted acceptance) step
  accepted_gives acceptance learns it = (
    it.seen_is,
    λ views has. (
      plan_is views step (Accepted sender slot acceptance learned) [] seen it.change_is it.sends_none it.seen_is,
      subst (λ (l : List LearnerCall). Grows old.config.members views.learner_calls l step.grown.items)
          (sym (ap (λ (c : Change). learner_calls_with views c) it.change_is)) (told_grows views (learner_call.Accepted sender slot acceptance.ballot acceptance.value) has refl (learns views has) it.grown_is),
    ),
  )

  pub decided_gives : (value : Value) → ((views : Views) → Has old views → Learns old.config.members views.learner_calls (learner_call.Decided slot value) slot learned)
      → Gains step grown seen (Decided slot value learned) → StepIsDue old seen sender slot (body.Decided value) step
  decided_gives value learns it = (
    it.seen_is,
    λ views has. (
      plan_is views step (Decided slot value learned) [] seen it.change_is it.sends_none it.seen_is,
      subst (λ (l : List LearnerCall). Grows old.config.members views.learner_calls l step.grown.items)
          (sym (ap (λ (c : Change). learner_calls_with views c) it.change_is)) (told_grows views (learner_call.Decided slot value) has refl (learns views has) it.grown_is),
    ),
  )

-- ---- what can be taken

module _ (old mid new : AgreementState) (slot : ℕ) (learned : Option Value) (config : mid.config ≡ old.config) (config' : new.config ≡ mid.config) (learner : new.learner ≡ mid.learner)
    (room : HasRoomForLearned new.log learned) (within : slot < old.config.slot_limit) where
  still_within : slot < new.config.slot_limit
  still_within = subst (λ (x : AgreementConfig). slot < x.slot_limit) (sym (config' ∙ config)) within

  pub can_hear : (sender : ℕ) (acceptance : Acceptance) → HasRoomForVote mid.learner sender slot acceptance.ballot → LearnsNow mid.learner sender slot acceptance.ballot acceptance.value learned
      → CanCountVote new sender slot acceptance learned
  can_hear sender acceptance vote now = record {
    vote = subst (λ (l : LearnerState). HasRoomForVote l sender slot acceptance.ballot) (sym learner) vote;
    now = subst (λ (l : LearnerState). LearnsNow l sender slot acceptance.ballot acceptance.value learned) (sym learner) now;
    room = room;
    within = still_within;
  }

  pub can_learn : (value : Value) → HasRoomToLearn mid.learner slot → DecidedNow (learned_at mid.learner slot) value learned → CanLearn new slot value learned
  can_learn value place now = record {
    place = subst (λ (l : LearnerState). HasRoomToLearn l slot) (sym learner) place;
    now = subst (λ (l : LearnerState). DecidedNow (learned_at l slot) value learned) (sym learner) now;
    room = room;
    within = still_within;
  }
