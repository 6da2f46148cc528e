use Rattle.std.proofs.Common.{sym, subst}
use Rattle.proposer.specs.State.{ProposerState, StateAfter}
use Rattle.proposer.proofs.proposer.Proposer.has_report_ahead.Goals as goal

pub returns-in-Some : goal.returns-in-Some
returns-in-Some c = λ start calls stands.
    let state : ProposerState = record { me = c.self.inside.me; members = c.self.inside.members; highest_round = c.self.inside.highest_round; attempt = c.self.inside.attempt } in
    let was : StateAfter start calls state = subst (StateAfter start calls) (sym c.self.view_is) stands in
    c.has_report_ahead_for.ensures start.members calls (rw c.in-Some.is at was.attempt)

pub returns-in-None : goal.returns-in-None
returns-in-None c = λ start calls stands.
    let state : ProposerState = record { me = c.self.inside.me; members = c.self.inside.members; highest_round = c.self.inside.highest_round; attempt = c.self.inside.attempt } in
    let was : StateAfter start calls state = subst (StateAfter start calls) (sym c.self.view_is) stands in
    (λ yes. absurd (cc), λ report. absurd ((rw c.in-None.is at was.attempt) report.may.begun report.may.since report.may.open_is))
