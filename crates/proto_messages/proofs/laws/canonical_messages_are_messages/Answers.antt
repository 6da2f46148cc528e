use Rattle.proto_messages.proofs.MessageWriting.{canonical_is_message}
use Rattle.proto_messages.proofs.laws.canonical_messages_are_messages.Goals as goal

pub returns : goal.returns
returns c = canonical_is_message
