use Rattle.std.proofs.Common.{sym, subst}
use Rattle.proposer.specs.State.{ProposerState, Holds, StateAfter}
use Rattle.proposer.proofs.Majority.{majority_where_gone, gone_where_majority, none_where_closed}
use Rattle.proposer.proofs.proposer.Proposer.has_majority.Goals as goal

pub returns-in-Some : goal.returns-in-Some
returns-in-Some c = λ start calls after.
    let state : ProposerState = record { me = c.self.inside.me; members = c.self.inside.members; highest_round = c.self.inside.highest_round; attempt = c.self.inside.attempt } in
    let was : StateAfter start calls state = subst (StateAfter start calls) (sym c.self.view_is) after in
    let holds : Holds start.members calls c.in-Some.attempt = rw c.in-Some.is at was.attempt in (
      λ yes. majority_where_gone start.members calls c.in-Some.attempt holds (c.has_majority.ensures.0 yes),
      λ majority. c.has_majority.ensures.1 (gone_where_majority start.members calls c.in-Some.attempt holds majority),
    )

pub returns-in-None : goal.returns-in-None
returns-in-None c = λ start calls after.
    let state : ProposerState = record { me = c.self.inside.me; members = c.self.inside.members; highest_round = c.self.inside.highest_round; attempt = c.self.inside.attempt } in
    let was : StateAfter start calls state = subst (StateAfter start calls) (sym c.self.view_is) after in
    (λ yes. absurd (cc), λ majority. absurd (none_where_closed start.members calls (rw c.in-None.is at was.attempt) majority))
