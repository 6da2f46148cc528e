use Rattle.std.proofs.lemmas.Result.{err_from_is_err_and}
use Rattle.client_calls.specs.Results.{GivesInfo, HasInfo}
use Rattle.client_calls.proofs.OneMessage.{one_says, one_fails}
use Rattle.client_calls.proofs.info.read_info.Goals as goal

pub returns : goal.returns
returns g c =
    one_says c.no_frame_begins_another.ensures GivesInfo HasInfo (g.R.Read.remaining c.args.r.now) (g.R.Read.remaining c.read_one.new.r) c.in_ok-message.message c.info_in.result
    c.in_ok-message.ensures (λ fits. rw c.deref.ensures.value at c.info_in.ensures)

pub returns-in_err-message : goal.returns-in_err-message
returns-in_err-message g c =
    let p = err_from_is_err_and c.from_residual.result c.from_residual.ensures.1 in
    rw (p.1, p.2)
    (one_fails c.no_frame_begins_another.ensures GivesInfo HasInfo (g.R.Read.remaining c.args.r.now) (g.R.Read.remaining c.read_one.new.r) c.in_err-message.field-0.0
    c.in_err-message.ensures (λ messages has. (has.1.0, has.1.1)))
