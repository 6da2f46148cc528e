use Rattle.std.proofs.Common.{◌≡◌, string_bytes}
use Rattle.replay_command.specs.Lines.{numbers_text}
use Rattle.replay_command.proofs.lines.numbers_text.Given as goal

abbrev pub invariant-loop-told : goal.invariant-loop-told
invariant-loop-told l = string_bytes l.text ≡ numbers_text l.fn.first l.told
