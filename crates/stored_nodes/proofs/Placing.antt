-- The record that is due is of the configuration, so that a node can start with it.
use Rattle.std.proofs.Common.{◌≡◌, sym, subst, inl, inr, ℕ, ◌<◌, true, false, Bool, Option, None, Some, List, [], ◌∷◌, ◌++◌}
use Rattle.std.specs.List.{AllByRecursion}
use Rattle.ballots.specs.Ballot.{Ballot}
use Rattle.ballots.specs.declared.acceptance.Acceptance.{Acceptance}
use Rattle.ballots.specs.declared.record.Record.{Record}
use Rattle.ballots.specs.declared.message.Body.{Body}
use Rattle.ballots.specs.declared.message.Body.TheVariants as body
use Rattle.acceptor.specs.declared.answer.Answer.{Answer}
use Rattle.acceptor.specs.declared.answer.Answer.TheVariants as answer
use Rattle.agreement_rules.specs.Views.{AgreementConfig, Views}
use Rattle.agreement_rules.specs.Due.{Refuses, Plan, Plans, AimIsDue, Aim, Attempts, AsksFrom, ReplyToPrepare, ReplyToAccept, IsBodyOf, has_seen, BodyKeeps}
use Rattle.histories.specs.Due.{Input, Put, Tick, Deliver, IsDue, BodyIsDue, InputKeeps}
use Rattle.histories.specs.Following.{with_due}
use Rattle.node_core.specs.State.{IsRecordOf}

abbrev pub IsOf : AgreementConfig → Option Record → Type 0
IsOf config None = Unit {0}
IsOf config (Some kept) = IsRecordOf config kept

of_plan : (config : AgreementConfig) (plan made : Plan) → plan ≡ made → IsOf config made.kept → IsOf config plan.kept
of_plan config plan made is of = subst (λ (p : Plan). IsOf config p.kept) (sym is) of

prepared : (config : AgreementConfig) (me : ℕ) (views : Views) (slot : ℕ) (ballot : Ballot) (reply : Answer) (plan : Plan)
    → slot < config.slot_limit → ballot.node < config.members → ReplyToPrepare me views slot ballot reply plan → IsOf config plan.kept
prepared config me views slot ballot (answer.Promise report) plan within member is = of_plan config plan _ is (within, member)
prepared config me views slot ballot (answer.Nack promised) plan within member is = of_plan config plan _ is tt
prepared config me views slot ballot answer.Granted plan within member is = absurd is
prepared config me views slot ballot (answer.PromiseFrom reports) plan within member is = absurd is

accepted : (config : AgreementConfig) (me : ℕ) (views : Views) (slot : ℕ) (proposal : Acceptance) (reply : Answer) (plan : Plan)
    → slot < config.slot_limit → proposal.ballot.node < config.members → ReplyToAccept me views slot proposal reply plan → IsOf config plan.kept
accepted config me views slot proposal (answer.Promise report) plan within member is = absurd is
accepted config me views slot proposal (answer.PromiseFrom reports) plan within member is = absurd is
accepted config me views slot proposal (answer.Nack promised) plan within member is = of_plan config plan _ is tt
accepted config me views slot proposal answer.Granted plan within member is = of_plan config plan _ is (within, member)

body_of : (config : AgreementConfig) (me : ℕ) (views : Views) (sender slot : ℕ) (said : Body) (plan : Plan)
    → slot < config.slot_limit → IsBodyOf config.members said → BodyIsDue config me views sender slot said plan → IsOf config plan.kept
body_of config me views sender slot (body.Prepare ballot) plan within of due = prepared config me views slot ballot due.2 plan within of due.5
body_of config me views sender slot (body.Accept proposal) plan within of due = accepted config me views slot proposal due.2 plan within of due.5
body_of config me views sender slot (body.Promise ballot report) plan within of due = of_plan config plan _ due.2 tt
body_of config me views sender slot (body.Nack ballot promised) plan within of due = of_plan config plan _ due tt
body_of config me views sender slot (body.Accepted acceptance) plan within of due = of_plan config plan _ due.4 tt
body_of config me views sender slot (body.Decided value) plan within of due = of_plan config plan _ due.4 tt
body_of config me views sender slot body.Ask plan within of due = of_plan config plan _ due.2 tt

aim_of : (config : AgreementConfig) (me : ℕ) (views : Views) (aim : Aim) (plan : Plan) → me < config.members
    → AimIsDue config me views aim (Plans plan) → IsOf config plan.kept
aim_of config me views (Attempts slot value) plan member due = of_plan config plan _ due.4 member
aim_of config me views (AsksFrom slot) plan member (inl due) = of_plan config plan _ due.1 tt
aim_of config me views (AsksFrom slot) plan member (inr due) = of_plan config plan _ due.1 tt

pub due_is_of : (config : AgreementConfig) (me : ℕ) (views : Views) (input : Input) (plan : Plan) → me < config.members
    → IsDue config me views input (Plans plan) → IsOf config plan.kept
due_is_of config me views (Put text) plan member (inl due) = of_plan config plan _ due.1 tt
due_is_of config me views (Put text) plan member (inr due) = of_plan config plan _ due.3 tt
due_is_of config me views (Tick left) plan member (inl due) = absurd (cc)
due_is_of config me views (Tick left) plan member (inr due) = aim_of config me views due.0 plan member due.3
due_is_of config me views (Deliver m) plan member due =
    body_of config me (has_seen views m) m.sender m.slot m.body plan due.0.slot due.0.body due.1

-- and so is the record that is due, whether or not there was a plan for it
none_is_of : (config : AgreementConfig) (kept : Option Record) → kept ≡ None → IsOf config kept
none_is_of config kept is = subst (λ (k : Option Record). IsOf config k) (sym is) tt

some_is_of : (config : AgreementConfig) (kept : Option Record) (due : Record) → kept ≡ Some due → IsRecordOf config due → IsOf config kept
some_is_of config kept due is of = subst (λ (k : Option Record). IsOf config k) (sym is) of

body_kept_is_of : (config : AgreementConfig) (records : List Record) (slot : ℕ) (said : Body) (kept : Option Record)
    → slot < config.slot_limit → IsBodyOf config.members said → BodyKeeps records slot said kept → IsOf config kept
body_kept_is_of config records slot (body.Prepare ballot) kept within of (standing, restored, inl (above, is)) = some_is_of config kept _ is (within, of)
body_kept_is_of config records slot (body.Prepare ballot) kept within of (standing, restored, inr (not, is)) = none_is_of config kept is
body_kept_is_of config records slot (body.Accept proposal) kept within of (standing, restored, inl (above, is)) = some_is_of config kept _ is (within, of)
body_kept_is_of config records slot (body.Accept proposal) kept within of (standing, restored, inr (not, is)) = none_is_of config kept is
body_kept_is_of config records slot (body.Promise ballot report) kept within of is = none_is_of config kept is
body_kept_is_of config records slot (body.Nack ballot promised) kept within of is = none_is_of config kept is
body_kept_is_of config records slot (body.Accepted acceptance) kept within of is = none_is_of config kept is
body_kept_is_of config records slot (body.Decided value) kept within of is = none_is_of config kept is
body_kept_is_of config records slot body.Ask kept within of is = none_is_of config kept is

pub kept_is_of : (config : AgreementConfig) (me : ℕ) (views : Views) (input : Input) (kept : Option Record) → me < config.members
    → InputKeeps config me views input kept → IsOf config kept
kept_is_of config me views (Put text) kept member is = none_is_of config kept is
kept_is_of config me views (Tick left) kept member (Refuses refusal, due, is) = none_is_of config kept is
kept_is_of config me views (Tick left) kept member (Plans plan, due, is) =
    subst (λ (k : Option Record). IsOf config k) (sym is) (due_is_of config me views (Tick left) plan member due)
kept_is_of config me views (Deliver m) kept member (inl (of, keeps)) = body_kept_is_of config views.records m.slot m.body kept of.slot of.body keeps
kept_is_of config me views (Deliver m) kept member (inr (not, is)) = none_is_of config kept is

-- records of the configuration, with the one that is due or without it, are of the configuration
records_and : (config : AgreementConfig) (records : List Record) (kept : Record) → AllByRecursion (IsRecordOf config) records
    → IsRecordOf config kept → AllByRecursion (IsRecordOf config) (records ++ kept ∷ [])
records_and config [] kept all of = (of, tt)
records_and config (first ∷ others) kept all of = (all.0, records_and config others kept all.1 of)

pub recovered_are_of : (config : AgreementConfig) (recovered : Bool) (records : List Record) (kept : Option Record)
    → AllByRecursion (IsRecordOf config) records → IsOf config kept → AllByRecursion (IsRecordOf config) (with_due recovered records kept)
recovered_are_of config true records None all of = all
recovered_are_of config false records None all of = all
recovered_are_of config true records (Some kept) all of = records_and config records kept all of
recovered_are_of config false records (Some kept) all of = all
