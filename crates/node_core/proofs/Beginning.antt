-- What is due to a tick that makes the node begin an attempt.
use Rattle.std.proofs.Common.{◌≡◌, ◌↔◌, inl, inr, ℕ, ◌<◌, ◌≤◌, max, Bool, true, false, IsTrue, Option, None, Some, IsSome, List, [], ◌∷◌, length, Result, Ok, Err, refl, sym, ap, subst, ◌∙◌, arith}
use Rattle.std.proofs.lemmas.Bool.{cases_lt}
use Rattle.std.proofs.lemmas.Result.{err_from_is_err_and}
use Rattle.std.specs.Result.{IsErrAnd}
use Rattle.std.specs.Option.{MatchOption}
use Rattle.ballots.specs.Limits.{max_round}
use Rattle.ballots.specs.declared.value.Value.{Value}
use Rattle.ballots.specs.declared.value.Value.TheVariants.{Noop, Upload as UploadValue}
use Rattle.proposer.specs.Attempting.{next_ballot}
use Rattle.agreement_rules.specs.Views.{AgreementConfig, Views, HasPrefix, HasGap}
use Rattle.ballots.specs.Message.{message}
use Rattle.ballots.specs.declared.message.Body.TheVariants.{Ask}
use Rattle.agreement_rules.specs.Due.{Aim, Attempts, AsksFrom, IsAim, AimIsDue, TickIsDue, Plan, Plans, most_left, begins}
use Rattle.histories.specs.Due.{IsDue, Tick}
use Rattle.agreement.specs.declared.refusal.Refusal.{Refusal}
use Rattle.agreement.specs.declared.refusal.Refusal.TheVariants.{OutOfRange, SlotsSpent, RoundsSpent, OutOfMemory}
use Rattle.agreement.specs.declared.step.AgreementStep.{AgreementStep as Step}
use Rattle.agreement.specs.State.{AgreementState, Has}
use Rattle.agreement.specs.Step.{AttemptGives, AskGives, CanTake, plan_of}
use Rattle.node_core.specs.declared.plan.Planned.TheVariants.{Steps}
use Rattle.node_core.specs.State.{NodeState, NodeHas}
use Rattle.node_core.proofs.Messages.{grows_by_none}
use Rattle.node_core.specs.Plans.{IsPlanned, CanCommit, TickGives, HasRoundLeft, CannotBegin, IsSlotLeft}

-- the attempt for this slot is what a tick is for
abbrev pub AimsAt : NodeState → ℕ → Value → ℕ → Type 0
AimsAt state left value slot = (views : Views) → NodeHas state views → IsAim state.agreement.config views left (Attempts slot value)

-- what a `?` hands on
pub handed_on : {T : Type 0} (r : Result T Refusal) (fault : Refusal) → IsErrAnd r (λ e. e ≡ fault) → r ≡ Err fault
handed_on r fault h = let p = err_from_is_err_and r h in p.1 ∙ ap (λ (e : Refusal). Err e) p.2

module _ (state : NodeState) (left : ℕ) (within : left ≤ most_left) (value : Value) where
  pub attempt_gives : (slot : ℕ) → HasRoundLeft state.agreement → AimsAt state left value slot → (result : Result Step Refusal)
      → AttemptGives state.agreement slot value result → TickGives state left result
  attempt_gives slot round aims (Ok step) gives = λ views has. inr (Attempts slot value, within, aims views has, gives views has.agrees)
  attempt_gives slot round aims (Err OutOfRange) gives = absurd gives
  attempt_gives slot round aims (Err SlotsSpent) gives = λ views has. inr (Attempts slot value, within, aims views has, gives views)
  attempt_gives slot round aims (Err RoundsSpent) gives = λ views has. inr (Attempts slot value, within, aims views has, gives views has.agrees)
  attempt_gives slot round aims (Err OutOfMemory) gives = λ views has.
      let highest = state.agreement.proposer.highest_round in
      let rounds = subst (λ (n : ℕ). max n highest < max_round) has.agrees.seen round in (
        begins state.agreement.me views slot value (next_ballot state.agreement.me highest views.seen_round),
        inr (Attempts slot value, within, aims views has, (highest, gives, has.agrees.begun, rounds, refl)),
      )

  -- what is said of the slot that was looked for
  abbrev pub AimsAtIt : Option ℕ → Type 0
  AimsAtIt None = (views : Views) → NodeHas state views
      → (slot : ℕ) × (state.agreement.config.slot_limit ≤ slot) × IsAim state.agreement.config views left (Attempts slot value)
  AimsAtIt (Some slot) = (views : Views) → NodeHas state views
      → (slot < state.agreement.config.slot_limit) × IsAim state.agreement.config views left (Attempts slot value)

  no_slot : (slot : Option ℕ) → slot ≡ None → AimsAtIt slot → TickGives state left (Err SlotsSpent)
  no_slot None is aims = λ views has. let aim = aims views has in inr (Attempts aim.0 value, within, aim.2, aim.1)
  no_slot (Some slot) is aims = absurd (cc)

  no_round : (slot : Option ℕ) → IsSome slot → (HasRoundLeft state.agreement → ⊥) → AimsAtIt slot → TickGives state left (Err RoundsSpent)
  no_round None is spent aims = absurd (cc)
  no_round (Some slot) is spent aims = λ views has.
      let aim = aims views has in
      let highest = state.agreement.proposer.highest_round in
      let rounds = elim (cases_lt (max state.agreement.seen_round highest) max_round) as (λ _. max_round ≤ max state.agreement.seen_round highest) [
        | inl lt ↦ absurd (spent lt)
        | inr le ↦ le
      ] in
      inr (Attempts slot value, within, aim.1, (highest, aim.0, has.agrees.begun, subst (λ (n : ℕ). max_round ≤ max n highest) has.agrees.seen rounds))

  pub none_begins : (slot : Option ℕ) (refusal : Refusal) → CannotBegin state.agreement slot refusal → AimsAtIt slot
      → TickGives state left (Err refusal)
  none_begins slot refusal (inl (is, none)) aims = subst (λ (r : Refusal). TickGives state left (Err r)) (sym is) (no_slot slot none aims)
  none_begins slot refusal (inr (is, some, spent)) aims = subst (λ (r : Refusal). TickGives state left (Err r)) (sym is) (no_round slot some spent aims)

  -- memory was refused, and nothing else stands against it
  pub no_memory : (slot : Option ℕ) (found : ℕ) → slot ≡ Some found → HasRoundLeft state.agreement → AimsAtIt slot
      → TickGives state left (Err OutOfMemory)
  no_memory slot found is round aims = λ views has.
      let aim = subst AimsAtIt is aims views has in
      attempt_gives found round (λ vs h. (subst AimsAtIt is aims vs h).1) (Err OutOfMemory) aim.0 views has

  pub aims_there : (slot : Option ℕ) (found : ℕ) → slot ≡ Some found → AimsAtIt slot → AimsAt state left value found
  aims_there slot found is aims = λ views has. (subst AimsAtIt is aims views has).1

-- ---- what is aimed at

-- an attempt for nothing, at the first free slot
pub noop_aims : (state : NodeState) (left : ℕ) (within : left ≤ most_left) → state.waiting.texts ≡ []
    → ((views : Views) (values : List Value) → NodeHas state views → HasPrefix state.agreement.config.members views.learner_calls values
    → HasGap state.agreement.config.members views.learner_calls (length values)) → (slot : Option ℕ)
    → ((views : Views) (values : List Value) → Has state.agreement views → HasPrefix state.agreement.config.members views.learner_calls values
    → MatchOption slot (length values ≡ state.agreement.config.slot_limit) (λ s. (s ≡ length values) × (s < state.agreement.config.slot_limit)))
    → AimsAtIt state left within Noop slot
noop_aims state left within none gap None first = λ views has.
    let full = first views has.values has.agrees has.prefix in
    (length has.values, omega (arith, full), inr (has.values, sym has.waits ∙ none, refl, has.prefix, refl, gap views has.values has has.prefix))
noop_aims state left within none gap (Some slot) first = λ views has.
    let at = first views has.values has.agrees has.prefix in (
      at.1,
      inr (
        has.values,
        sym has.waits ∙ none,
        refl,
        has.prefix,
        at.0,
        subst (HasGap state.agreement.config.members views.learner_calls) (sym at.0) (gap views has.values has has.prefix),
      ),
    )

-- an attempt for the upload that has waited longest, at the slot that is left for it
pub upload_aims : (state : NodeState) (left : ℕ) (within : left ≤ most_left) (text : List ℕ) (others : List (List ℕ))
    → state.waiting.texts ≡ text ∷ others → (slot : Option ℕ)
    → ((views : Views) (values : List Value) → Has state.agreement views → HasPrefix state.agreement.config.members views.learner_calls values
    → IsSlotLeft state.agreement.config views left slot)
    → AimsAtIt state left within (UploadValue text) slot
upload_aims state left within text others is None found = λ views has.
    let at = found views has.values has.agrees has.prefix in
    (at.0, at.1, inl (text, others, sym has.waits ∙ is, refl, at.2))
upload_aims state left within text others is (Some slot) found = λ views has.
    let at = found views has.values has.agrees has.prefix in
    (at.0, inl (text, others, sym has.waits ∙ is, refl, at.1))

-- ---- what is asked of a node

abbrev pub RequiresGap : NodeState → Type 0
RequiresGap state = (views : Views) (values : List Value) → NodeHas state views → HasPrefix state.agreement.config.members views.learner_calls values
    → HasGap state.agreement.config.members views.learner_calls (length values)

abbrev pub CanAttempt : NodeState → Option ℕ → Refusal → Type 0
CanAttempt state slot refusal = CannotBegin state.agreement slot refusal

abbrev pub RoundIsLeft : NodeState → Type 0
RoundIsLeft state = HasRoundLeft state.agreement

-- ---- where a tick leads

told_stays : (config : AgreementConfig) (me : ℕ) (views : Views) (aim : Aim) (plan : Plan) → AimIsDue config me views aim (Plans plan)
    → plan.after.learner_calls ≡ views.learner_calls
told_stays config me views (Attempts slot value) plan due = ap (λ (p : Plan). p.after.learner_calls) due.4
told_stays config me views (AsksFrom slot) plan (inl due) = ap (λ (p : Plan). p.after.learner_calls) due.1
told_stays config me views (AsksFrom slot) plan (inr due) = ap (λ (p : Plan). p.after.learner_calls) due.1

pub tick_told : (config : AgreementConfig) (me : ℕ) (views : Views) (left : ℕ) (plan : Plan) → TickIsDue config me views left (Plans plan)
    → plan.after.learner_calls ≡ views.learner_calls
tick_told config me views left plan (inl due) = absurd (cc)
tick_told config me views left plan (inr due) = told_stays config me views due.0 plan due.3

pub tick_planned : (state : NodeState) (views : Views) → NodeHas state views → (left : ℕ) (step : Step)
    → IsDue state.agreement.config state.agreement.me views (Tick left) (Plans (plan_of views step))
    → IsPlanned state views (Tick left) (Steps step)
tick_planned state views has left step due = record {
  plan = plan_of views step;
  due = due;
  kept = refl;
  sends = refl;
  leads = (
    grows_by_none state.agreement.config.members views.learner_calls (plan_of views step).after.learner_calls []
        (tick_told state.agreement.config state.agreement.me views left (plan_of views step) due) refl,
    refl,
  );
}

-- what is asked where nothing is attempted
pub question_due : (state : NodeState) (left : ℕ) → left ≤ most_left → state.waiting.texts ≡ []
    → ((views : Views) (values : List Value) → NodeHas state views → HasPrefix state.agreement.config.members views.learner_calls values
    → HasGap state.agreement.config.members views.learner_calls (length values) → ⊥)
    → (step : Step) → AskGives state.agreement step → TickGives state left (Ok step)
question_due state left within none no-gap step gives views has =
    inr (
      AsksFrom (length has.values),
      within,
      (has.values, sym has.waits ∙ none, has.prefix, refl, no-gap views has.values has has.prefix),
      gives views has.values has.agrees has.prefix,
    )

pub question_refused : (state : NodeState) (left : ℕ) → left ≤ most_left → state.waiting.texts ≡ []
    → ((views : Views) (values : List Value) → NodeHas state views → HasPrefix state.agreement.config.members views.learner_calls values
    → HasGap state.agreement.config.members views.learner_calls (length values) → ⊥)
    → ((views : Views) (values : List Value) → Has state.agreement views → HasPrefix state.agreement.config.members views.learner_calls values
    → length values < state.agreement.config.slot_limit) → TickGives state left (Err OutOfMemory)
question_refused state left within none no-gap memory views has =
    let slot = length has.values in (
      record { kept = None; sends = message state.agreement.me slot Ask ∷ []; after = views },
      inr (
        AsksFrom slot,
        within,
        (has.values, sym has.waits ∙ none, has.prefix, refl, no-gap views has.values has has.prefix),
        inl (memory views has.values has.agrees has.prefix, refl),
      ),
    )

-- ---- whether there is a gap

abbrev pub HasNoGap : NodeState → Type 0
HasNoGap state = (views : Views) (values : List Value) → NodeHas state views → HasPrefix state.agreement.config.members views.learner_calls values
    → HasGap state.agreement.config.members views.learner_calls (length values) → ⊥

abbrev pub TellsGap : AgreementState → Bool → Type 0
TellsGap agreement answer = (views : Views) (values : List Value) → Has agreement views → HasPrefix agreement.config.members views.learner_calls values
    → IsTrue answer ↔ HasGap agreement.config.members views.learner_calls (length values)

pub gap_told : (state : NodeState) (answer : Bool) → TellsGap state.agreement answer → answer ≡ true → RequiresGap state
gap_told state answer tells holds = λ views values has prefix. (tells views values has.agrees prefix).0 holds

pub no_gap_told : (state : NodeState) (answer : Bool) → TellsGap state.agreement answer → answer ≡ false → HasNoGap state
no_gap_told state answer tells fails = λ views values has prefix gap.
    let holds = (tells views values has.agrees prefix).1 gap in
    let both : false ≡ true = sym fails ∙ holds in cc

-- ---- a tick can be committed

abbrev pub StandsSomehow : NodeState → Type 0
StandsSomehow state = (views : Views) × NodeHas state views

pub tick_can : (state : NodeState) → StandsSomehow state → (left : ℕ) (step : Step) → TickGives state left (Ok step)
    → CanTake state.agreement step.change → CanCommit state (Steps step)
tick_can state (views, has) left step gives can =
    let planned = tick_planned state views has left step (gives views has) in
    record { room = can; views = views; has = has; after = planned.plan.after; leads = planned.leads }
