use Rattle.std.proofs.Common.{[], ◌∷◌, ◌++◌, refl, sym, ap, subst, ◌∙◌}
use Rattle.proposer.specs.Call.{Nacks}
use Rattle.proposer.specs.State.{ProposerState, place_of, attempt_of, StateAfter, IsRefusedBy}
use Rattle.proposer.proofs.Standing.{stands_after}
use Rattle.proposer.proofs.Staying.{own_is_at}
use Rattle.proposer.proofs.proposer.Proposer.on_nack.Goals as goal

pub invariant_of-self : goal.invariant_of-self
invariant_of-self c =
    let old : ProposerState = record { me = c.self.inside.me; members = c.self.inside.members; highest_round = c.self.inside.highest_round; attempt = c.self.inside.attempt } in
    let was : StateAfter c.self.invariant.start c.self.invariant.calls old = c.self.invariant.after in
    record {
      start = c.self.invariant.start;
      calls = c.self.invariant.calls ++ Nacks c.args.slot c.args.ballot ∷ [];
      after = stands_after c.self.invariant.start c.self.invariant.calls (Nacks c.args.slot c.args.ballot) old c.end_at.new.held refl was (c.end_at.ensures.stands c.self.invariant.start.members c.self.invariant.calls was.attempt);
    }

pub returns-clause-stands : goal.returns-clause-stands
returns-clause-stands c = λ start calls stands.
    let old : ProposerState = record { me = c.self.inside.me; members = c.self.inside.members; highest_round = c.self.inside.highest_round; attempt = c.self.inside.attempt } in
    let was : StateAfter start calls old = subst (StateAfter start calls) (sym c.self.view_is) stands in
    stands_after start calls (Nacks c.args.slot c.args.ballot) old c.end_at.new.held refl was (c.end_at.ensures.stands start.members calls was.attempt)

pub returns-clause-own : goal.returns-clause-own
returns-clause-own c = λ is.
    ap place_of (c.end_at.ensures.ends (own_is_at c.self.inside.attempt c.args.slot c.args.ballot (ap attempt_of c.self.view_is ∙ is)))

pub returns-clause-ends : goal.returns-clause-ends
returns-clause-ends c = λ refused.
    ap place_of (c.end_at.ensures.ends (subst (λ (s : ProposerState). IsRefusedBy s c.args.slot c.args.ballot) (sym c.self.view_is) refused))

pub returns-clause-stays : goal.returns-clause-stays
returns-clause-stays c = λ not.
    ap place_of (c.end_at.ensures.stays (λ at. not (subst (λ (s : ProposerState). IsRefusedBy s c.args.slot c.args.ballot) c.self.view_is at))) ∙ ap attempt_of c.self.view_is
