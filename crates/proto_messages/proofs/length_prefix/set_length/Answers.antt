use Rattle.std.proofs.Common.{arith}
use Rattle.proto_messages.proofs.Embedding.{length_of_one_byte}
use Rattle.proto_messages.proofs.length_prefix.set_length.Goals as goal

pub returns-then-length-lt128-clause-ok : goal.returns-then-length-lt128-clause-ok
returns-then-length-lt128-clause-ok c =
    length_of_one_byte c.args.out.now.items c.args.place _ c.requires (omega (arith, c.len.ensures)) c.if-length-lt128.true
