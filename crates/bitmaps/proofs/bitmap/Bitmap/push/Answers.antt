use Rattle.std.proofs.Common.{◌≡◌, refl, ◌∙◌, ap, ◌==◌, arith, Bool, true, false}
use Rattle.std.specs.Int.{bit_at}
use mir.Val.{bool_byte}
use Rattle.bitmaps.specs.Bits.{bit_of}
use Rattle.bitmaps.proofs.Lists.{length_bits, grown_by_one}
use Rattle.bitmaps.proofs.bitmap.Bitmap.push.Goals as goal

-- the byte of a bit has it in front
in_front : (bit : Bool) → (bit_at (bool_byte bit) 0 == 1) ≡ bit
in_front true = refl
in_front false = refl

pub returns-clause-fits : goal.returns-clause-fits
returns-clause-fits c =
    rw (← c.self.view_is)
    (omega (arith, c.in-Some.ensures, length_bits c.self.inside.bytes.items 0 c.self.inside.length))

pub returns-clause-pushed : goal.returns-clause-pushed
returns-clause-pushed c =
    rw (← c.self.view_is)
    (grown_by_one c.self.inside.bytes.items c.put_bits.new.bytes.items c.self.inside.length c.in-Some.length c.args.bit
    (omega (arith, c.in-Some.ensures))
    (λ j below. c.put_bits.ensures.before j below ∙ ap (λ l. bit_of l j) c.in_ok-reserve.ensures.items)
    (c.put_bits.ensures.put 0 ∙ ap (λ b. bit_at b 0 == 1) c.from.ensures ∙ in_front c.args.bit))
