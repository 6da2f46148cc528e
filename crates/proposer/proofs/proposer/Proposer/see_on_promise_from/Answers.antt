use Rattle.std.proofs.Common.{ℕ, None, sym, subst}
use Rattle.proposer.specs.Call.{PromiseFrom}
use Rattle.proposer.specs.Attempting.{AnswersFrom}
use Rattle.proposer.specs.State.{ProposerState, Holds, StateAfter}
use Rattle.proposer.proofs.Answering.{closed_answers}
use Rattle.proposer.proofs.Results.{ok_weaker, err_weaker}
use Rattle.proposer.proofs.proposer.Proposer.see_on_promise_from.Goals as goal

pub returns-in-Some-clause-memory : goal.returns-in-Some-clause-memory
returns-in-Some-clause-memory c =
    let old : ProposerState = record { me = c.self.inside.me; members = c.self.inside.members; highest_round = c.self.inside.highest_round; attempt = c.self.inside.attempt } in
    let promise : PromiseFrom = record { sender = c.args.sender; slot = c.args.slot; ballot = c.args.ballot; reports = c.args.reports.now } in
    err_weaker _ _ c.see_count_from_in.result (λ refused start calls stands answers.
    let was : StateAfter start calls old = subst (StateAfter start calls) (sym c.self.view_is) stands in
    refused calls (subst (λ (m : ℕ). Holds m calls c.in-Some.attempt) (sym was.members) (rw c.in-Some.is at was.attempt))
    (subst (λ (m : ℕ). AnswersFrom m calls promise None) (sym was.members) answers))
    c.see_count_from_in.ensures.memory

pub returns-in-Some-clause-answers : goal.returns-in-Some-clause-answers
returns-in-Some-clause-answers c =
    let old : ProposerState = record { me = c.self.inside.me; members = c.self.inside.members; highest_round = c.self.inside.highest_round; attempt = c.self.inside.attempt } in
    let promise : PromiseFrom = record { sender = c.args.sender; slot = c.args.slot; ballot = c.args.ballot; reports = c.args.reports.now } in
    ok_weaker _ _ c.see_count_from_in.result (λ answer gives start calls stands.
    let was : StateAfter start calls old = subst (StateAfter start calls) (sym c.self.view_is) stands in
    subst (λ (m : ℕ). AnswersFrom m calls promise answer) was.members
    (gives calls (subst (λ (m : ℕ). Holds m calls c.in-Some.attempt) (sym was.members) (rw c.in-Some.is at was.attempt))))
    c.see_count_from_in.ensures.answers

pub returns-in-None-clause-answers : goal.returns-in-None-clause-answers
returns-in-None-clause-answers c = λ start calls stands.
    let old : ProposerState = record { me = c.self.inside.me; members = c.self.inside.members; highest_round = c.self.inside.highest_round; attempt = c.self.inside.attempt } in
    let was : StateAfter start calls old = subst (StateAfter start calls) (sym c.self.view_is) stands in
    closed_answers start.members calls _ (rw c.in-None.is at was.attempt)
