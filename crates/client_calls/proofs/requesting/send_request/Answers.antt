use Rattle.std.proofs.Common.{[], ◌∷◌}
use Rattle.std.proofs.lemmas.Result.{err_from_is_err_and}
use Rattle.call_protocol.specs.Methods.{path_text}
use Rattle.call_protocol.specs.Texts.{call_text}
use Rattle.client_calls.proofs.Sent.{nothing_sent}
use Rattle.client_calls.proofs.requesting.send_request.Goals as goal

pub returns-in_err-path : goal.returns-in_err-path
returns-in_err-path g c =
    let p = err_from_is_err_and c.from_residual.result c.from_residual.ensures.1 in
    rw (p.1, p.2)
    (nothing_sent c.in_err-path.field-0.0 (call_text (path_text c.args.method) (c.args.message.now ∷ [])) (g.W.Write.contents c.args.w.now) c.in_err-path.ensures)
