use Rattle.std.proofs.Common.{rules}
use Rattle.ballots.specs.MessageReading.{body_at}
use Rattle.ballots.proofs.decoding.body_of.Goals as goal

pub returns-in_default : goal.returns-in_default
unfolding body_at
returns-in_default c = search rules steps 300000
