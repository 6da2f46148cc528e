-- What is due leaves a node the records that it had, and behind them the one that is kept.
use Rattle.std.proofs.Common.{◌≡◌, refl, sym, subst, inl, inr, ℕ, true}
use Rattle.ballots.specs.Ballot.{Ballot}
use Rattle.ballots.specs.declared.acceptance.Acceptance.{Acceptance}
use Rattle.ballots.specs.declared.message.Body.{Body}
use Rattle.ballots.specs.declared.message.Body.TheVariants as body
use Rattle.acceptor.specs.declared.answer.Answer.{Answer}
use Rattle.acceptor.specs.declared.answer.Answer.TheVariants as answer
use Rattle.agreement_rules.specs.Views.{AgreementConfig, Views}
use Rattle.agreement_rules.specs.Due.{Plan, Plans, AimIsDue, Aim, Attempts, AsksFrom, ReplyToPrepare, ReplyToAccept, has_seen}
use Rattle.histories.specs.Due.{Input, Put, Tick, Deliver, IsDue, BodyIsDue}
use Rattle.histories.specs.Following.{with_due}

abbrev pub Keeps : Views → Plan → Type 0
Keeps views plan = plan.after.records ≡ with_due true views.records plan.kept

prepared : (me : ℕ) (views : Views) (slot : ℕ) (ballot : Ballot) (reply : Answer) (plan : Plan)
    → ReplyToPrepare me views slot ballot reply plan → Keeps views plan
prepared me views slot ballot (answer.Promise report) plan is = subst (Keeps views) (sym is) refl
prepared me views slot ballot (answer.Nack promised) plan is = subst (Keeps views) (sym is) refl
prepared me views slot ballot answer.Granted plan is = absurd is
prepared me views slot ballot (answer.PromiseFrom reports) plan is = absurd is

accepted : (me : ℕ) (views : Views) (slot : ℕ) (proposal : Acceptance) (reply : Answer) (plan : Plan)
    → ReplyToAccept me views slot proposal reply plan → Keeps views plan
accepted me views slot proposal (answer.Promise report) plan is = absurd is
accepted me views slot proposal (answer.PromiseFrom reports) plan is = absurd is
accepted me views slot proposal (answer.Nack promised) plan is = subst (Keeps views) (sym is) refl
accepted me views slot proposal answer.Granted plan is = subst (Keeps views) (sym is) refl

body_keeps : (config : AgreementConfig) (me : ℕ) (views : Views) (sender slot : ℕ) (said : Body) (plan : Plan)
    → BodyIsDue config me views sender slot said plan → Keeps views plan
body_keeps config me views sender slot (body.Prepare ballot) plan due = prepared me views slot ballot due.2 plan due.5
body_keeps config me views sender slot (body.Accept proposal) plan due = accepted me views slot proposal due.2 plan due.5
body_keeps config me views sender slot (body.Promise ballot report) plan due = subst (Keeps views) (sym due.2) refl
body_keeps config me views sender slot (body.Nack ballot promised) plan due = subst (Keeps views) (sym due) refl
body_keeps config me views sender slot (body.Accepted acceptance) plan due = subst (Keeps views) (sym due.4) refl
body_keeps config me views sender slot (body.Decided value) plan due = subst (Keeps views) (sym due.4) refl
body_keeps config me views sender slot body.Ask plan due = subst (Keeps views) (sym due.2) refl

aim_keeps : (config : AgreementConfig) (me : ℕ) (views : Views) (aim : Aim) (plan : Plan)
    → AimIsDue config me views aim (Plans plan) → Keeps views plan
aim_keeps config me views (Attempts slot value) plan due = subst (Keeps views) (sym due.4) refl
aim_keeps config me views (AsksFrom slot) plan (inl due) = subst (Keeps views) (sym due.1) refl
aim_keeps config me views (AsksFrom slot) plan (inr due) = subst (Keeps views) (sym due.1) refl

pub due_keeps : (config : AgreementConfig) (me : ℕ) (views : Views) (input : Input) (plan : Plan)
    → IsDue config me views input (Plans plan) → Keeps views plan
due_keeps config me views (Put text) plan (inl due) = subst (Keeps views) (sym due.1) refl
due_keeps config me views (Put text) plan (inr due) = subst (Keeps views) (sym due.3) refl
due_keeps config me views (Tick left) plan (inl due) = absurd (cc)
due_keeps config me views (Tick left) plan (inr due) = aim_keeps config me views due.0 plan due.3
due_keeps config me views (Deliver m) plan due = body_keeps config me (has_seen views m) m.sender m.slot m.body plan due.1
