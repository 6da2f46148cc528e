use Rattle.std.proofs.Common.{sym, ◌∙◌, arith}
use Rattle.uploads.proofs.Counting.{begin_count, next_count, few_left, all_counted}
use Rattle.uploads.proofs.upload.Upload.batch_count.Goals as goal

pub loop-batches-init : goal.loop-batches-init
loop-batches-init c =
    let is = c.encoded_batches-batches.ensures.upload in
    begin_count c.args.self.now c.encoded_batches-batches.result is.0 is.1.0 is.1.1 (c.encoded_batches-batches.ensures.left is.0 is.1.0 is.1.1)

pub returns : goal.returns
returns c =
    all_counted c.args.self.now c.loop-batches.batches c.next.new.self c.next.result c.loop-batches.count c.loop-batches.invariant
    (c.next.ensures c.loop-batches.invariant.left c.loop-batches.invariant.has) (sym c.is_some.ensures ∙ c.loop-batches-test.false)
    c.uploads_have_one_encoding.ensures
