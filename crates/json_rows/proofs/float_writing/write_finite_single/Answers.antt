use Rattle.std.proofs.Common.{◌≡◌, rules, refl, sym, ap, subst, ◌∙◌, ◌<◌, ◌^◌, true, arith}
use Rattle.std.specs.Prelude.{T, Float}
use Rattle.std.specs.Float.{float_is_finite, round_to_format}
use Rattle.byteorder.specs.Endian.{little_bytes}
use Rattle.serde_json.specs.Data.{number, float}
use lib.Ieee.{fits, binary32}
use Rattle.json_rows.specs.Numbers.{AreBytesOf, TellsFiniteSingle, IsHeldBelow, float_told, single_limit}
use Rattle.json_rows.proofs.Rounding.{rounded_stays}
use Rattle.json_rows.proofs.Texts.{written_weaker}
use Rattle.json_rows.proofs.float_writing.write_finite_single.Goals as goal

pub returns-clause-written : goal.returns-clause-written
returns-clause-written c =
    let x = c.f32_from_bits_with_nan-single.result in
    let held : T (fits binary32 x) = search rules in
    let bytes = little_bytes 4 c.args.bits in
    let below : c.args.bits < 2 ^ 32 = omega (arith, c.ranges.bits.fits) in
    let finite : float_is_finite x ≡ true = sym c.if-not-is_finite.ensures.value in
    let stays : round_to_format binary32 c.from.result ≡ x = ap (round_to_format binary32) c.from.ensures ∙ rounded_stays binary32 x held finite in
    let stands : AreBytesOf binary32 4 x bytes = record {
      stands = c.args.bits;
      within = below;
      value_is = sym c.f32_from_bits_with_nan-single.ensures;
      finite = finite;
      bytes_are = refl;
    } in
    written_weaker (λ d. d ≡ number (float c.from.result)) (λ d. TellsFiniteSingle d bytes) 0 0 c.args.out.now.tokens c.put_float.new.out.tokens
    (λ d is. record {
      double = c.from.result;
      told = ap float_told is;
      held = subst (IsHeldBelow single_limit) (sym is) tt;
      finite = ap float_is_finite c.from.ensures ∙ finite;
      stands = subst (λ (y : Float). AreBytesOf binary32 4 y bytes) (sym stays) stands;
    }) (omega arith) c.in_ok-put_float.ensures.written
