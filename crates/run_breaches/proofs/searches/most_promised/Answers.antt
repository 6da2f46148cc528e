use Rattle.std.specs.List.{Any}
use Rattle.run_breaches.specs.Earlier.{Promises, IsWithin}
use Rattle.run_breaches.proofs.Sets.{majority_of_set}
use Rattle.run_breaches.proofs.searches.most_promised.Goals as goal

pub returns : goal.returns
returns g =
    majority_of_set g.args.members g.promisers.result (λ a. Any (Promises g.args.slot g.args.ballot (IsWithin g.args.bound) a) g.args.before.now) g.are_majority.result g.promisers.ensures g.are_majority.ensures
