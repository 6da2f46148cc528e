use Rattle.std.proofs.Common.{◌≡◌, refl, pos, length, arith, w64, to_z}
use Rattle.std.proofs.lemmas.Int.{ints}
use Rattle.record_batches.proofs.Adding.{adds_buffer}
use Rattle.record_batches.proofs.head.HeadWriter.put_buffer.Goals as goal

pub returns : goal.returns
returns c =
    let place : to_z w64 c.args.self.now.end ≡ pos c.args.self.now.end = omega (arith, ints, c.requires.short) in
    let count : to_z w64 (length c.args.bytes.now) ≡ pos (length c.args.bytes.now) = omega (arith, ints) in
    adds_buffer c.args.self.now _ c.args.bytes.now (to_z w64 c.args.self.now.end) (to_z w64 (length c.args.bytes.now))
    c.padding.result refl c.in_ok-push.ensures.items place count refl c.padding.ensures
