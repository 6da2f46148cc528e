use Rattle.std.proofs.Common.{◌≡◌, sym, ap, ap₂, subst, ◌∙◌, ◌+◌, ◌/◌, length}
use Rattle.bitmaps.specs.Bits.{bits_of}
use Rattle.bitmaps.specs.Packed.{IsKept}
use Rattle.bitmaps.specs.Joined.{set_in_one}
use Rattle.bitmaps.proofs.Lists.{length_bits}
use Rattle.bitmaps.proofs.Joining.{xor_bits, xor_kept}
use Rattle.bitmaps.proofs.bitmap.Bitmap.xor_with.Goals as goal

pub xor_bytes-requires : goal.xor_bytes-requires
xor_bytes-requires c =
    let same : c.self.inside.length ≡ c.other.inside.length =
    sym (length_bits c.self.inside.bytes.items 0 c.self.inside.length) ∙ ap length c.self.view_is ∙ c.requires
    ∙ sym (ap length c.other.view_is) ∙ length_bits c.other.inside.bytes.items 0 c.other.inside.length in
    c.self.invariant.enough ∙ ap (λ n. (n + 7) / 8) same ∙ sym c.other.invariant.enough ∙ ap length (sym c.as_slice.ensures.value)

pub invariant_of-self : goal.invariant_of-self
invariant_of-self c =
    let same : c.self.inside.length ≡ c.other.inside.length =
    sym (length_bits c.self.inside.bytes.items 0 c.self.inside.length) ∙ ap length c.self.view_is ∙ c.requires
    ∙ sym (ap length c.other.view_is) ∙ length_bits c.other.inside.bytes.items 0 c.other.inside.length in
    let other_kept : IsKept c.as_slice.result.now c.self.inside.length =
    subst (IsKept c.as_slice.result.now) (sym same) (subst (λ l. IsKept l c.other.inside.length) (sym c.as_slice.ensures.value) c.other.invariant) in
    xor_kept c.self.inside.bytes.items c.as_slice.result.now c.xor_bytes.new.bytes.items c.xor_bytes.ensures.each c.self.inside.length
    c.xor_bytes.ensures.length c.self.invariant other_kept

pub returns-clause-one : goal.returns-clause-one
returns-clause-one c =
    let same : c.self.inside.length ≡ c.other.inside.length =
    sym (length_bits c.self.inside.bytes.items 0 c.self.inside.length) ∙ ap length c.self.view_is ∙ c.requires
    ∙ sym (ap length c.other.view_is) ∙ length_bits c.other.inside.bytes.items 0 c.other.inside.length in
    xor_bits c.self.inside.bytes.items c.as_slice.result.now c.xor_bytes.new.bytes.items c.xor_bytes.ensures.each c.self.inside.length
    ∙ ap₂ set_in_one c.self.view_is (ap₂ (λ l n. bits_of l 0 n) c.as_slice.ensures.value same ∙ c.other.view_is)

pub returns-clause-long : goal.returns-clause-long
returns-clause-long c =
    length_bits c.xor_bytes.new.bytes.items 0 c.self.inside.length ∙ sym (length_bits c.self.inside.bytes.items 0 c.self.inside.length)
    ∙ ap length c.self.view_is
