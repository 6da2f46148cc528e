use Rattle.std.proofs.Common.{sym, subst}
use Rattle.proposer.specs.State.{ProposerState, StateAfter}
use Rattle.proposer.proofs.Results.{ok_weaker, err_weaker}
use Rattle.proposer.proofs.proposer.Proposer.see_go_on.Goals as goal

pub returns-in-Some-clause-answers : goal.returns-in-Some-clause-answers
returns-in-Some-clause-answers c =
    ok_weaker _ _ c.see_go_on_for.result (λ answer gives start calls stands.
    let state : ProposerState = record { me = c.self.inside.me; members = c.self.inside.members; highest_round = c.self.inside.highest_round; attempt = c.self.inside.attempt } in
    let was : StateAfter start calls state = subst (StateAfter start calls) (sym c.self.view_is) stands in
    gives start.members calls (rw c.in-Some.is at was.attempt))
    c.see_go_on_for.ensures.answers

pub returns-in-Some-clause-memory : goal.returns-in-Some-clause-memory
returns-in-Some-clause-memory c =
    err_weaker _ _ c.see_go_on_for.result (λ refused start calls stands.
    let state : ProposerState = record { me = c.self.inside.me; members = c.self.inside.members; highest_round = c.self.inside.highest_round; attempt = c.self.inside.attempt } in
    let was : StateAfter start calls state = subst (StateAfter start calls) (sym c.self.view_is) stands in
    refused start.members calls (rw c.in-Some.is at was.attempt))
    c.see_go_on_for.ensures.memory

pub returns-in-None-clause-answers : goal.returns-in-None-clause-answers
returns-in-None-clause-answers c = λ start calls stands slot may.
    let state : ProposerState = record { me = c.self.inside.me; members = c.self.inside.members; highest_round = c.self.inside.highest_round; attempt = c.self.inside.attempt } in
    let was : StateAfter start calls state = subst (StateAfter start calls) (sym c.self.view_is) stands in
    (rw c.in-None.is at was.attempt) may.begun may.since may.open_is
