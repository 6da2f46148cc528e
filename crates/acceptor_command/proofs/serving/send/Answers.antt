use Rattle.std.proofs.Common.{◌≡◌, sym, ◌∙◌, rules, arith}
use Rattle.std.proofs.lemmas.Grind.{common_steps}
use Rattle.ballots.specs.Message.{canonical}
use Rattle.acceptor_command.proofs.Replying.{whole_frame}
use Rattle.acceptor_command.proofs.serving.send.Goals as goal

pub returns-then-is_err : goal.returns-then-is_err
returns-then-is_err g c = search rules steps 300000

pub returns-then-len-gt-MAX_FRAME_PAYLOAD : goal.returns-then-len-gt-MAX_FRAME_PAYLOAD
returns-then-len-gt-MAX_FRAME_PAYLOAD g c = search rules steps 300000

pub returns-then-is_err-2 : goal.returns-then-is_err-2
returns-then-is_err-2 g c = grind (arith, common_steps) steps 600000

pub returns-then-is_err-3 : goal.returns-then-is_err-3
returns-then-is_err-3 g c =
    let payload_is : c.deref.result.now ≡ canonical c.args.reply.now = search rules steps 300000 in
    whole_frame c.write_frame.result c.args.reply.now c.deref.result.now (g.W.Write.contents c.args.w.now) (g.W.Write.contents c.write_frame.new.w) (g.W.Write.contents c.flush.new.self)
    (sym c.is_err-2.ensures.value ∙ c.if-is_err-2.false) payload_is c.write_frame.ensures.written c.flush.ensures.bytes

pub returns : goal.returns
returns g c = grind (arith, common_steps) steps 600000
