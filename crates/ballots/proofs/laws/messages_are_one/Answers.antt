use Rattle.ballots.proofs.Decodes.{one_message}
use Rattle.ballots.proofs.laws.messages_are_one.Goals as goal

pub returns : goal.returns
returns c = one_message
