use Rattle.std.proofs.Common.{ap}
use Rattle.learner.proofs.Lookups.{chosen_where}
use Rattle.learner.proofs.state.State.is_chosen_with.Goals as goal

pub returns : goal.returns
returns c =
    chosen_where c.args.self.now c.self.inside.members c.votes.result c.with-votes.result c.args.acceptor c.args.slot c.args.ballot c.are_majority.result
    (ap (λ h. h.members) c.self.view_is) c.votes.ensures c.with-votes.ensures c.are_majority.ensures
