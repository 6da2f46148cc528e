use Rattle.std.proofs.Common.{arith}
use Rattle.header_writing.proofs.Lengths.{string_end}
use Rattle.header_writing.proofs.length.behind_string.Goals as goal

pub returns : goal.returns
returns c = omega (arith, string_end c.args.place c.args.string.now, c.aligned.ensures)
