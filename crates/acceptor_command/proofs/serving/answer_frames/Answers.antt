use Rattle.std.proofs.Common.{rules}
use Rattle.acceptor.specs.AcceptorState.{standing}
use Rattle.acceptor_command.proofs.Running.{run_starts, run_goes_on}
use Rattle.acceptor_command.proofs.serving.answer_frames.Goals as goal

pub loop-number-init : goal.loop-number-init
loop-number-init g c = run_starts (standing c.new-acceptor.result) (g.R.Read.remaining c.args.r.now) (g.W.Write.contents c.args.w.now) c.new-acceptor.ensures.fresh

pub loop-number-preserved : goal.loop-number-preserved
loop-number-preserved g c =
    run_goes_on c.loop-number.number (standing c.loop-number.acceptor) (standing c.answer_next.new.acceptor) (g.R.Read.remaining c.args.r.now) (g.R.Read.remaining c.loop-number.r) (g.R.Read.remaining c.answer_next.new.r)
    (g.W.Write.contents c.args.w.now) (g.W.Write.contents c.loop-number.w) (g.W.Write.contents c.answer_next.new.w) c.loop-number.invariant (rw c.in-Ok-true.field-0-test at c.in-Ok-true.ensures)

pub returns-in-Ok-false : goal.returns-in-Ok-false
returns-in-Ok-false g c = search rules steps 2000000

pub returns-in-Err : goal.returns-in-Err
returns-in-Err g c = search rules steps 2000000

pub returns : goal.returns
returns g c = search rules steps 2000000
