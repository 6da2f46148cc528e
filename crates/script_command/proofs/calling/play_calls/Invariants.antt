use Rattle.script_command.specs.Playing.{WritesLines}
use Rattle.script_command.proofs.calling.play_calls.Given as goal

abbrev pub invariant-loop-number : goal.invariant-loop-number
invariant-loop-number g l = WritesLines (g.W.Write.contents l.initial.w) l.number (g.W.Write.contents l.w)
