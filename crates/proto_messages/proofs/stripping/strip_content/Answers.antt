use Rattle.std.proofs.lemmas.Bool.Decides.{Decides-eqb}
use Rattle.std.proofs.lemmas.Slice.Eq.{strip_prefix_is}
use Rattle.proto_messages.proofs.Strips.{stripped_prefix}
use Rattle.proto_messages.proofs.stripping.strip_content.Goals as goal

pub returns : goal.returns
returns c =
    stripped_prefix c.args.bytes.now c.args.content.now c.strip_prefix.result
    (strip_prefix_is Decides-eqb c.args.bytes.now c.args.content.now c.strip_prefix.result c.strip_prefix.ensures.cases)
