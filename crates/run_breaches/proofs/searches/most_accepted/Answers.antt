use Rattle.std.specs.List.{Any}
use Rattle.run_breaches.specs.Earlier.{Accepts}
use Rattle.run_breaches.proofs.Sets.{majority_of_set}
use Rattle.run_breaches.proofs.searches.most_accepted.Goals as goal

pub returns : goal.returns
returns g =
    majority_of_set g.args.members g.acceptors_of.result (λ a. Any (Accepts g.args.slot g.args.ballot g.args.value.now a) g.args.before.now) g.are_majority.result g.acceptors_of.ensures g.are_majority.ensures
