use Rattle.std.proofs.Common.{ap, ◌∙◌, rules}
use Rattle.grpc_frames.specs.Frame.{Frame}
use Rattle.acceptor.specs.AcceptorState.{standing}
use Rattle.acceptor_command.proofs.Replying.{message_flag, misread, refused, answered_none, answered_some}
use Rattle.acceptor_command.proofs.serving.answer_frame.Goals as goal

pub returns-in-Ok-None : goal.returns-in-Ok-None
returns-in-Ok-None g c =
    let f = c.args.frame.now in
    let flag_is = ap (λ (x : Frame). x.flag) c.frame.view_is in
    let payload_is = c.deref.ensures.value ∙ ap (λ (x : Frame). x.payload) c.frame.view_is in
    answered_none (standing c.args.acceptor.now) (standing c.reply_to.new.acceptor) f c.deref.result.now c.in-Ok.message
    (message_flag f.flag c.requires (λ e. c.if-frame.false (flag_is ∙ e))) payload_is c.in-Ok.ensures.read (g.W.Write.contents c.args.w.now) (rw c.in-Ok-None.field-0-is at c.in-Ok-None.ensures.answered)

pub returns-in-Ok-Some : goal.returns-in-Ok-Some
returns-in-Ok-Some g c =
    let f = c.args.frame.now in
    let flag_is = ap (λ (x : Frame). x.flag) c.frame.view_is in
    let payload_is = c.deref.ensures.value ∙ ap (λ (x : Frame). x.payload) c.frame.view_is in
    answered_some (standing c.args.acceptor.now) (standing c.reply_to.new.acceptor) f c.deref.result.now c.in-Ok.message
    (message_flag f.flag c.requires (λ e. c.if-frame.false (flag_is ∙ e))) payload_is c.in-Ok.ensures.read c.send.result c.in-Ok-Some.reply (g.W.Write.contents c.args.w.now) (g.W.Write.contents c.send.new.w) (rw c.in-Ok-Some.field-0-is at c.in-Ok-Some.ensures.answered) c.send.ensures

pub returns-then-frame : goal.returns-then-frame
returns-then-frame g c = search rules steps 300000

pub returns-in-Err : goal.returns-in-Err
returns-in-Err g c =
    let f = c.args.frame.now in
    let flag_is = ap (λ (x : Frame). x.flag) c.frame.view_is in
    let payload_is = c.deref.ensures.value ∙ ap (λ (x : Frame). x.payload) c.frame.view_is in
    misread (standing c.args.acceptor.now) (standing c.args.acceptor.now) f c.deref.result.now c.decode.result c.in-Err.fault (message_flag f.flag c.requires (λ e. c.if-frame.false (flag_is ∙ e))) payload_is c.in-Err.is c.in-Err.ensures.fault c.decode.ensures.memory
    (g.W.Write.contents c.args.w.now)

pub returns-in-Err-reply_to : goal.returns-in-Err-reply_to
returns-in-Err-reply_to g c =
    let f = c.args.frame.now in
    let flag_is = ap (λ (x : Frame). x.flag) c.frame.view_is in
    let payload_is = c.deref.ensures.value ∙ ap (λ (x : Frame). x.payload) c.frame.view_is in
    refused (standing c.args.acceptor.now) (standing c.reply_to.new.acceptor) f c.deref.result.now c.in-Ok.message
    (message_flag f.flag c.requires (λ e. c.if-frame.false (flag_is ∙ e))) payload_is c.in-Ok.ensures.read (g.W.Write.contents c.args.w.now) c.in-Err-reply_to.ensures.memory
