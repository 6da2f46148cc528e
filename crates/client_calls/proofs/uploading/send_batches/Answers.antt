use Rattle.std.proofs.Common.{Ok, Err}
use Rattle.std.proofs.lemmas.Result.{err_from_is_err_and}
use Rattle.grpc_frames.specs.FrameFaults.{WhereKnown}
use Rattle.client_calls.specs.Sending.{Sends}
use Rattle.client_calls.proofs.Batches.{begin_sending, sent_more, fewer_left, sending_fails, said_of_each, all_sent}
use Rattle.client_calls.proofs.uploading.send_batches.Goals as goal

pub loop-header-init : goal.loop-header-init
loop-header-init g c =
    let is = c.encoded_batches-batches.ensures.upload in
    begin_sending c.args.upload.now c.encoded_batches-batches.result (g.W.Write.contents c.args.w.now) is.0 is.1.0 is.1.1
    (c.encoded_batches-batches.ensures.left is.0 is.1.0 is.1.1)

pub loop-header-preserved : goal.loop-header-preserved
loop-header-preserved g c =
    let still = c.loop-header.invariant in
    sent_more c.args.upload.now c.loop-header.batches c.next.new.self c.next.result (c.in-Some.header, c.in-Some.body)
    (g.W.Write.contents c.args.w.now) (g.W.Write.contents c.loop-header.w) (g.W.Write.contents c.send_batch.new.w) still c.in-Some.is
    (c.next.ensures still.left still.has) c.in_ok-send_batch.ensures

pub loop-header-smaller : goal.loop-header-smaller
loop-header-smaller g c =
    let still = c.loop-header.invariant in
    fewer_left c.args.upload.now c.loop-header.batches c.next.new.self c.next.result (c.in-Some.header, c.in-Some.body)
    (g.W.Write.contents c.args.w.now) (g.W.Write.contents c.loop-header.w) (g.W.Write.contents c.send_batch.new.w) still c.in-Some.is
    (c.next.ensures still.left still.has)

pub returns-in_err-send_batch : goal.returns-in_err-send_batch
returns-in_err-send_batch g c =
    let p = err_from_is_err_and c.from_residual.result c.from_residual.ensures.1 in
    rw (p.1, p.2)
    (let still = c.loop-header.invariant in
    said_of_each (λ text. WhereKnown (g.W.Write.contents c.args.w.now) (g.W.Write.contents c.send_batch.new.w) (Sends (Err c.in_err-send_batch.field-0.0) text))
    c.args.upload.now still.upload still.valid still.encoded c.uploads_have_one_encoding.ensures
    (sending_fails c.args.upload.now c.loop-header.batches c.next.new.self c.next.result (c.in-Some.header, c.in-Some.body)
    (g.W.Write.contents c.args.w.now) (g.W.Write.contents c.loop-header.w) (g.W.Write.contents c.send_batch.new.w) still c.in-Some.is
    (c.next.ensures still.left still.has) c.in_err-send_batch.field-0.0 c.in_err-send_batch.ensures))

pub returns : goal.returns
returns g c =
    let still = c.loop-header.invariant in
    said_of_each (λ text. WhereKnown (g.W.Write.contents c.args.w.now) (g.W.Write.contents c.loop-header.w) (Sends (Ok tt) text))
    c.args.upload.now still.upload still.valid still.encoded c.uploads_have_one_encoding.ensures
    (all_sent c.args.upload.now c.loop-header.batches c.next.new.self c.next.result (g.W.Write.contents c.args.w.now) (g.W.Write.contents c.loop-header.w)
    still c.in_default.is (c.next.ensures still.left still.has))
