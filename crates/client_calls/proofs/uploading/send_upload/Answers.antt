use Rattle.std.proofs.Common.{map}
use Rattle.std.proofs.lemmas.Result.{err_from_is_err_and}
use Rattle.table_types.specs.Served.{in_frame}
use Rattle.call_protocol.specs.Texts.{messages_text}
use Rattle.client_calls.specs.Requests.{opening_message, further_message}
use Rattle.client_calls.proofs.Sent.{send_fails, send_follows}
use Rattle.client_calls.proofs.uploading.send_upload.Goals as goal

pub returns-in_err-send_opening : goal.returns-in_err-send_opening
returns-in_err-send_opening g c = λ u is same.
    let p = err_from_is_err_and c.from_residual.result c.from_residual.ensures.1 in
    rw (p.1, p.2)
    (send_fails c.in_err-send_opening.field-0.0 (in_frame (opening_message u)) (messages_text (map (further_message u.schema) u.batches))
    (g.W.Write.contents c.args.w.now) (g.W.Write.contents c.send_opening.new.w) (c.in_err-send_opening.ensures u is same))

pub returns : goal.returns
returns g c = λ u is same.
    send_follows c.send_batches.result (in_frame (opening_message u)) (messages_text (map (further_message u.schema) u.batches))
    (g.W.Write.contents c.args.w.now) (g.W.Write.contents c.send_opening.new.w) (g.W.Write.contents c.send_batches.new.w)
    (c.in_ok-send_opening.ensures u is same) (c.send_batches.ensures u is same)
