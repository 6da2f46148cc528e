use Rattle.std.proofs.Common.{◌≡◌, ◌++◌}
use Rattle.header_writing.specs.Objects.{zeros}
use Rattle.header_writing.proofs.layout.pad.Given as goal

abbrev pub invariant-loop : goal.invariant-loop
invariant-loop l = l.text.items ≡ l.fn.text.items ++ zeros l.counter
