use Rattle.std.proofs.Common.{arith}
use Rattle.downloads.proofs.Differing.{one_more, again}
use Rattle.downloads.proofs.ids.ids_differ.Goals as goal

pub returns-then-not-branch : goal.returns-then-not-branch
returns-then-not-branch c =
    let within = c.loop-upload-test.true in
    let end = c.loop-upload.auto.upload-index-end in
    let differ_not = again c.loop-upload.ids c.args.uploads.now c.loop-upload.upload-index c.upload-item.result c.upload-item.is (omega (arith, within, end)) c.loop-upload.invariant
    c.in_ok-insert.field-0 c.in_ok-insert.ensures.added c.if-not-branch.true in
    (λ never. absurd cc, λ differ. absurd (differ_not differ))

pub loop-upload-preserved : goal.loop-upload-preserved
loop-upload-preserved c =
    let within = c.loop-upload-test.true in
    let end = c.loop-upload.auto.upload-index-end in
    one_more c.loop-upload.ids c.args.uploads.now c.loop-upload.upload-index c.upload-item.result c.upload-item.is (omega (arith, within, end)) c.loop-upload.invariant
    c.insert.new.self c.in_ok-insert.field-0 c.in_ok-insert.ensures.added c.if-not-branch.false c.in_ok-insert.ensures.updates
