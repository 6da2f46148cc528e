use Rattle.acceptor.specs.AcceptorState.{standing}
use Rattle.acceptor_command.proofs.Running.{HasRun}
use Rattle.acceptor_command.proofs.serving.answer_frames.Given as goal

abbrev pub invariant-loop-number : goal.invariant-loop-number
invariant-loop-number g l =
    HasRun l.number (standing l.acceptor) (g.R.Read.remaining l.initial.r) (g.R.Read.remaining l.r) (g.W.Write.contents l.initial.w) (g.W.Write.contents l.w)
