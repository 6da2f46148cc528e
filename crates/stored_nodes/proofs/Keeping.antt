-- Which record is due to an input: that of the plan that is due, none where it is refused, and one or none where it is taken.
use Rattle.std.proofs.Common.{◌≡◌, refl, sym, subst, inl, inr, ℕ, Option, None, List}
use Rattle.ballots.specs.declared.record.Record.{Record}
use Rattle.ballots.specs.declared.message.Message.{Message}
use Rattle.ballots.specs.declared.message.Body.{Body}
use Rattle.ballots.specs.declared.message.Body.TheVariants as body
use Rattle.agreement_rules.specs.Views.{AgreementConfig, Views}
use Rattle.agreement_rules.specs.Due.{Refusal, Refuses, Plan, Plans, has_seen, record_due, PartIsDue, BodyKeeps}
use Rattle.histories.specs.Due.{Input, Put, Tick, Deliver, IsDue, BodyIsDue, InputKeeps}
use Rattle.node_core.specs.Plans.{IsTaken}

none_by : (plan made : Plan) → plan ≡ made → made.kept ≡ None → plan.kept ≡ None
none_by plan made is none = subst (λ (p : Plan). p.kept ≡ None) (sym is) none

-- the law that a plan for a body keeps the record that is due
abbrev pub PlansKeep : Type 0
PlansKeep = (config : AgreementConfig) (me : ℕ) (views : Views) (sender slot : ℕ) (said : Body) (plan : Plan) → PartIsDue config me views sender slot said plan
    → BodyKeeps views.records slot said plan.kept

body_keeps : PlansKeep → (config : AgreementConfig) (me : ℕ) (views : Views) (sender slot : ℕ) (said : Body) (plan : Plan)
    → BodyIsDue config me views sender slot said plan → BodyKeeps views.records slot said plan.kept
body_keeps keep config me views sender slot (body.Prepare ballot) plan due = keep config me views sender slot (body.Prepare ballot) plan due
body_keeps keep config me views sender slot (body.Accept proposal) plan due = keep config me views sender slot (body.Accept proposal) plan due
body_keeps keep config me views sender slot (body.Promise ballot report) plan due = keep config me views sender slot (body.Promise ballot report) plan due
body_keeps keep config me views sender slot (body.Nack ballot promised) plan due = keep config me views sender slot (body.Nack ballot promised) plan due
body_keeps keep config me views sender slot (body.Accepted acceptance) plan due = none_by plan _ due.4 refl
body_keeps keep config me views sender slot (body.Decided value) plan due = none_by plan _ due.4 refl
body_keeps keep config me views sender slot body.Ask plan due = keep config me views sender slot body.Ask plan due

pub plan_keeps : PlansKeep → (config : AgreementConfig) (me : ℕ) (views : Views) (input : Input) (plan : Plan)
    → IsDue config me views input (Plans plan) → InputKeeps config me views input plan.kept
plan_keeps keep config me views (Put text) plan (inl due) = none_by plan _ due.1 refl
plan_keeps keep config me views (Put text) plan (inr due) = none_by plan _ due.3 refl
plan_keeps keep config me views (Tick left) plan due = (Plans plan, due, refl)
plan_keeps keep config me views (Deliver m) plan due =
    inl (due.0, body_keeps keep config me (has_seen views m) m.sender m.slot m.body plan due.1)

pub refusal_keeps : (config : AgreementConfig) (me : ℕ) (views : Views) (input : Input) (refusal : Refusal)
    → IsDue config me views input (Refuses refusal) → InputKeeps config me views input None
refusal_keeps config me views (Put text) refusal due = refl
refusal_keeps config me views (Tick left) refusal due = (Refuses refusal, due, refl)
refusal_keeps config me views (Deliver m) refusal due = inr (due.1, refl)

-- the law that of every body some record is due, or none
abbrev pub BodiesHave : Type 0
BodiesHave = (records : List Record) (slot : ℕ) (said : Body) → (kept : Option Record) × BodyKeeps records slot said kept

pub taken_has : BodiesHave → (config : AgreementConfig) (me : ℕ) (views : Views) (input : Input) → IsTaken config me views input
    → (kept : Option Record) × InputKeeps config me views input kept
taken_has have config me views (Put text) taken = (None, refl)
taken_has have config me views (Tick left) taken = (record_due (Plans taken.0), (Plans taken.0, taken.1, refl))
taken_has have config me views (Deliver m) of =
    let has = have views.records m.slot m.body in
    (has.0, inl (of, has.1))

-- ---- the laws of this, as they are cited

abbrev pub Planned : Type 0
Planned = (config : AgreementConfig) (me : ℕ) (views : Views) (input : Input) (plan : Plan) → IsDue config me views input (Plans plan)
    → InputKeeps config me views input plan.kept

abbrev pub Refused : Type 0
Refused = (config : AgreementConfig) (me : ℕ) (views : Views) (input : Input) (refusal : Refusal) → IsDue config me views input (Refuses refusal)
    → InputKeeps config me views input None

abbrev pub Taken : Type 0
Taken = (config : AgreementConfig) (me : ℕ) (views : Views) (input : Input) → IsTaken config me views input
    → (kept : Option Record) × InputKeeps config me views input kept
