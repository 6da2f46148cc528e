use Rattle.std.proofs.Common.{Ok, Err, ◌++◌}
use Rattle.std.proofs.lemmas.Result.{err_from_is_err_and}
use Rattle.table_types.specs.Served.{in_frame}
use Rattle.call_protocol.specs.declared.method.Method.TheVariants as methods
use Rattle.call_protocol.specs.Methods.{path_text}
use Rattle.call_protocol.specs.Texts.{messages_text, end_text}
use Rattle.client_calls.specs.Requests.{put_messages}
use Rattle.client_calls.proofs.Sent.{send_fails, send_follows}
use Rattle.client_calls.proofs.uploading.send_put_request.Goals as goal

pub returns-in_err-send_path : goal.returns-in_err-send_path
returns-in_err-send_path g c = λ u is same.
    let p = err_from_is_err_and c.from_residual.result c.from_residual.ensures.1 in
    rw (p.1, p.2)
    (send_fails c.in_err-send_path.field-0.0 (in_frame (path_text methods.DoPut) ++ messages_text (put_messages u)) end_text
    (g.W.Write.contents c.args.w.now) (g.W.Write.contents c.send_path.new.w)
    (send_fails c.in_err-send_path.field-0.0 (in_frame (path_text methods.DoPut)) (messages_text (put_messages u))
    (g.W.Write.contents c.args.w.now) (g.W.Write.contents c.send_path.new.w) c.in_err-send_path.ensures))

pub returns-in_err-send_upload : goal.returns-in_err-send_upload
returns-in_err-send_upload g c = λ u is same.
    let p = err_from_is_err_and c.from_residual-in_err-send_upload.result c.from_residual-in_err-send_upload.ensures.1 in
    rw (p.1, p.2)
    (send_fails c.in_err-send_upload.field-0.0 (in_frame (path_text methods.DoPut) ++ messages_text (put_messages u)) end_text
    (g.W.Write.contents c.args.w.now) (g.W.Write.contents c.send_upload.new.w)
    (send_follows (Err c.in_err-send_upload.field-0.0) (in_frame (path_text methods.DoPut)) (messages_text (put_messages u))
    (g.W.Write.contents c.args.w.now) (g.W.Write.contents c.send_path.new.w) (g.W.Write.contents c.send_upload.new.w)
    c.in_ok-send_path.ensures (c.in_err-send_upload.ensures u is same)))

pub returns : goal.returns
returns g c = λ u is same.
    send_follows c.send_end.result (in_frame (path_text methods.DoPut) ++ messages_text (put_messages u)) end_text
    (g.W.Write.contents c.args.w.now) (g.W.Write.contents c.send_upload.new.w) (g.W.Write.contents c.send_end.new.w)
    (send_follows (Ok tt) (in_frame (path_text methods.DoPut)) (messages_text (put_messages u))
    (g.W.Write.contents c.args.w.now) (g.W.Write.contents c.send_path.new.w) (g.W.Write.contents c.send_upload.new.w)
    c.in_ok-send_path.ensures (c.in_ok-send_upload.ensures u is same))
    c.send_end.ensures
