use Rattle.proto_messages.proofs.EndToEnd.{texts_append}
use Rattle.proto_messages.proofs.laws.texts_end_to_end_merge.Goals as goal

pub returns : goal.returns
returns c = texts_append
