use Rattle.std.proofs.lemmas.Result.{err_from_is_err_and}
use Rattle.client_calls.specs.Requests.{list_request}
use Rattle.client_calls.proofs.Sent.{nothing_sent}
use Rattle.client_calls.proofs.requesting.send_list_request.Goals as goal

pub returns-in_err-message : goal.returns-in_err-message
returns-in_err-message g c =
    let p = err_from_is_err_and c.from_residual.result c.from_residual.ensures.1 in
    rw (p.1, p.2)
    (nothing_sent c.in_err-message.field-0.0 list_request (g.W.Write.contents c.args.w.now) c.in_err-message.ensures)
