use Rattle.ballots.specs.Majority.{NodeSet}
use Rattle.lawful_histories.specs.Judging.{HasAccepted}
use Rattle.lawful_histories.proofs.Majorities.{majority_of_set}
use Rattle.lawful_histories.proofs.judge.most_accepted.Goals as goal

pub returns : goal.returns
returns g = majority_of_set g.args.members g.acceptors_of.result (HasAccepted g.args.slot g.args.before.now g.args.ballot g.args.value.now) g.are_majority.result g.acceptors_of.ensures g.are_majority.ensures
