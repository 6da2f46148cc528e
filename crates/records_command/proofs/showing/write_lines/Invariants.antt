use Rattle.std.proofs.Common.{take}
use Rattle.std.specs.Io.KnownBytes.{Appends}
use Rattle.records_command.specs.Lines.{lines_of}
use Rattle.records_command.proofs.showing.write_lines.Given as goal

abbrev pub invariant-loop-number : goal.invariant-loop-number
invariant-loop-number g l =
    Appends (g.W.Write.contents l.initial.w) (g.W.Write.contents l.w) (lines_of (take l.number l.fn.records))
