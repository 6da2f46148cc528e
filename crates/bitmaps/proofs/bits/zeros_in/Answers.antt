use Rattle.std.proofs.Common.{◌≡◌, refl, sym, ap, ◌∙◌, ◌+◌, ◌-◌, ◌*◌, arith, get_or, length}
use Rattle.std.specs.Int.Count.{ones}
use Rattle.bitmaps.specs.Bits.{bits_of, zeros}
use Rattle.bitmaps.proofs.Counting.{zeros_few}
use Rattle.bitmaps.proofs.Wholes.{byte_more}
use Rattle.bitmaps.proofs.bits.zeros_in.Goals as goal

pub loop-byte-init : goal.loop-byte-init
loop-byte-init c = refl

pub overflow_add-zeros : goal.overflow_add-zeros
overflow_add-zeros c =
    omega (arith, c.loop-byte.invariant, zeros_few c.args.bytes.now 0 (8 * c.loop-byte.byte-index), c.loop-byte-test.true, c.requires)

pub loop-byte-preserved : goal.loop-byte-preserved
loop-byte-preserved c =
    let byte = get_or c.args.bytes.now c.loop-byte.byte-index 0 in
    let more = byte_more c.args.bytes.now c.loop-byte.byte-index byte refl (omega (arith, c.type_inv.bytes c.loop-byte.byte-index)) in
    ap (λ n. n + (8 - ones byte)) c.loop-byte.invariant ∙ sym more.0

pub returns : goal.returns
returns c =
    let end : c.loop-byte.byte-index ≡ length c.args.bytes.now = omega (arith, c.loop-byte-test.false, c.loop-byte.auto.byte-index-end) in
    c.loop-byte.invariant ∙ ap (λ k. zeros (bits_of c.args.bytes.now 0 (8 * k))) end
