use Rattle.proto_messages.proofs.MessageFaults.{message_is_one}
use Rattle.proto_messages.proofs.laws.messages_are_one.Goals as goal

pub returns : goal.returns
returns c = message_is_one
