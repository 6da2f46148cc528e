use Rattle.ballots.specs.Majority.{NodeSet}
use Rattle.lawful_histories.specs.Judging.{HasPromised}
use Rattle.lawful_histories.proofs.Majorities.{majority_of_set}
use Rattle.lawful_histories.proofs.judge.most_promise.Goals as goal

pub returns : goal.returns
returns g = majority_of_set g.args.members g.promisers.result (HasPromised g.args.slot g.args.before.now g.args.ballot g.args.bound.now) g.are_majority.result g.promisers.ensures g.are_majority.ensures
