use Rattle.std.proofs.lemmas.Result.{err_from_is_err_and}
use Rattle.call_protocol.specs.Texts.{end_text}
use Rattle.table_types.specs.Served.{in_frame}
use Rattle.client_calls.proofs.Sent.{first_fails, second_fails, all_three}
use Rattle.client_calls.proofs.requesting.send_one.Goals as goal

pub returns-in_err-send_message : goal.returns-in_err-send_message
returns-in_err-send_message g c =
    let p = err_from_is_err_and c.from_residual.result c.from_residual.ensures.1 in
    rw (p.1, p.2)
    (first_fails (in_frame c.args.path.now) (in_frame c.args.message.now) end_text c.in_err-send_message.field-0.0
    (g.W.Write.contents c.args.w.now) (g.W.Write.contents c.send_message.new.w) c.in_err-send_message.ensures)

pub returns-in_err-send_message-2 : goal.returns-in_err-send_message-2
returns-in_err-send_message-2 g c =
    let p = err_from_is_err_and c.from_residual-in_err-send_message-2.result c.from_residual-in_err-send_message-2.ensures.1 in
    rw (p.1, p.2)
    (second_fails (in_frame c.args.path.now) (in_frame c.args.message.now) end_text c.in_err-send_message-2.field-0.0
    (g.W.Write.contents c.args.w.now) (g.W.Write.contents c.send_message.new.w) (g.W.Write.contents c.send_message-2.new.w) c.in_ok-send_message.ensures c.in_err-send_message-2.ensures)

pub returns : goal.returns
returns g c =
    all_three (in_frame c.args.path.now) (in_frame c.args.message.now) end_text c.send_end.result
    (g.W.Write.contents c.args.w.now) (g.W.Write.contents c.send_message.new.w) (g.W.Write.contents c.send_message-2.new.w) (g.W.Write.contents c.send_end.new.w)
    c.in_ok-send_message.ensures c.in_ok-send_message-2.ensures c.send_end.ensures
