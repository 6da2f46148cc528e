use Rattle.std.proofs.Common.{◌≡◌, ◌++◌, drop}
use Rattle.header_writing.specs.Objects.{shorts}
use Rattle.header_writing.proofs.layout.put_shorts.Given as goal

abbrev pub invariant-loop-number : goal.invariant-loop-number
invariant-loop-number l = l.text.items ++ shorts (drop l.number-index l.numbers) ≡ l.fn.text.items ++ shorts l.numbers
