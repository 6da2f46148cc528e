use Rattle.std.proofs.Common.{arith}
use Rattle.header_writing.proofs.Lengths.{batch_long}
use Rattle.header_writing.proofs.length.batch_length.Goals as goal

pub returns : goal.returns
returns c = λ head nodes buffers. omega (arith, batch_long head, nodes, buffers)
