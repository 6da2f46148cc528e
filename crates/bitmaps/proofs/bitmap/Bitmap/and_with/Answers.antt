use Rattle.std.proofs.Common.{◌≡◌, sym, ap, ap₂, ◌∙◌, ◌+◌, ◌/◌, length}
use Rattle.bitmaps.specs.Bits.{bits_of}
use Rattle.bitmaps.specs.Joined.{set_in_both}
use Rattle.bitmaps.proofs.Lists.{length_bits}
use Rattle.bitmaps.proofs.Joining.{and_bits, and_kept}
use Rattle.bitmaps.proofs.bitmap.Bitmap.and_with.Goals as goal

pub and_bytes-requires : goal.and_bytes-requires
and_bytes-requires c =
    let same : c.self.inside.length ≡ c.other.inside.length =
    sym (length_bits c.self.inside.bytes.items 0 c.self.inside.length) ∙ ap length c.self.view_is ∙ c.requires
    ∙ sym (ap length c.other.view_is) ∙ length_bits c.other.inside.bytes.items 0 c.other.inside.length in
    c.self.invariant.enough ∙ ap (λ n. (n + 7) / 8) same ∙ sym c.other.invariant.enough ∙ ap length (sym c.as_slice.ensures.value)

pub invariant_of-self : goal.invariant_of-self
invariant_of-self c =
    let same : c.self.inside.length ≡ c.other.inside.length =
    sym (length_bits c.self.inside.bytes.items 0 c.self.inside.length) ∙ ap length c.self.view_is ∙ c.requires
    ∙ sym (ap length c.other.view_is) ∙ length_bits c.other.inside.bytes.items 0 c.other.inside.length in
    and_kept c.self.inside.bytes.items c.as_slice.result.now c.and_bytes.new.bytes.items c.and_bytes.ensures.each c.self.inside.length
    c.and_bytes.ensures.length c.self.invariant

pub returns-clause-both : goal.returns-clause-both
returns-clause-both c =
    let same : c.self.inside.length ≡ c.other.inside.length =
    sym (length_bits c.self.inside.bytes.items 0 c.self.inside.length) ∙ ap length c.self.view_is ∙ c.requires
    ∙ sym (ap length c.other.view_is) ∙ length_bits c.other.inside.bytes.items 0 c.other.inside.length in
    and_bits c.self.inside.bytes.items c.as_slice.result.now c.and_bytes.new.bytes.items c.and_bytes.ensures.each c.self.inside.length
    ∙ ap₂ set_in_both c.self.view_is (ap₂ (λ l n. bits_of l 0 n) c.as_slice.ensures.value same ∙ c.other.view_is)

pub returns-clause-long : goal.returns-clause-long
returns-clause-long c =
    length_bits c.and_bytes.new.bytes.items 0 c.self.inside.length ∙ sym (length_bits c.self.inside.bytes.items 0 c.self.inside.length)
    ∙ ap length c.self.view_is
