use Rattle.std.proofs.Common.{rules}
use Rattle.byteorder.proofs.Bytes.{take-bytes_low_first}
use Rattle.json_rows.proofs.numbers.bytes_of.Goals as goal

pub returns : goal.returns
returns c = let cut = take-bytes_low_first 0 8 c.args.size c.args.number c.requires in search (rules, cut)
