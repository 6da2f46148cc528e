use Rattle.proto_messages.proofs.Strips.{nothing_left, nothing_stands}
use Rattle.proto_messages.proofs.canonical.is_whole.Goals as goal

pub returns-in-Some : goal.returns-in-Some
returns-in-Some g c = nothing_left _ c.args.bytes.now c.in-Some.rest.now c.is_empty.result c.in-Some.ensures c.is_empty.ensures

pub returns-in-None : goal.returns-in-None
returns-in-None g c = nothing_stands _ c.args.bytes.now c.in-None.ensures
