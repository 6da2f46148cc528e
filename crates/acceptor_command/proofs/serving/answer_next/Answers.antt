use Rattle.std.proofs.Common.{rules}
use Rattle.acceptor.specs.AcceptorState.{standing}
use Rattle.acceptor_command.proofs.Replying.{steps_on}
use Rattle.acceptor_command.proofs.serving.answer_next.Goals as goal

pub returns-in_err-answer_frame-in-Ok-Some : goal.returns-in_err-answer_frame-in-Ok-Some
returns-in_err-answer_frame-in-Ok-Some g c = search rules steps 2000000

pub returns-in-Ok-None : goal.returns-in-Ok-None
returns-in-Ok-None g c = search rules steps 300000

pub returns-in_ok-answer_frame-in-Ok-Some : goal.returns-in_ok-answer_frame-in-Ok-Some
returns-in_ok-answer_frame-in-Ok-Some g c =
    steps_on (standing c.args.acceptor.now) (standing c.answer_frame.new.acceptor) c.in-Ok-Some.frame
    (g.R.Read.remaining c.args.r.now) (g.R.Read.remaining c.read_frame.new.r) (g.W.Write.contents c.args.w.now) (g.W.Write.contents c.answer_frame.new.w)
    (rw c.in-Ok-Some.field-0-is at c.in-Ok-Some.ensures.read) c.in_ok-answer_frame-in-Ok-Some.ensures

pub returns-in-Err : goal.returns-in-Err
returns-in-Err g c = search rules steps 300000
