use Rattle.std.proofs.Common.{rules, sym, ap, ◌∙◌}
use Rattle.std.specs.Prelude.{T}
use Rattle.std.specs.Float.{float_is_finite}
use Rattle.byteorder.specs.Endian.{little_bytes}
use lib.Ieee.{fits, binary32, to_bits}
use lib.Ieee.Bits.{of_bits-to_bits, to_bits-lt}
use Rattle.json_rows.proofs.floats.finite_single_bytes.Goals as goal

pub returns-clause-read : goal.returns-clause-read
returns-clause-read c =
    let x = c.nearest_f64_to_f32-single.result in
    let held : T (fits binary32 x) = search rules in
    record {
      double = c.in-Some.double;
      told = sym c.in-Some.ensures;
      held = search rules;
      finite = sym c.if-not-is_finite.ensures.value;
      stands = record {
        stands = to_bits binary32 x;
        within = to_bits-lt binary32 x held;
        value_is = of_bits-to_bits binary32 x held ∙ c.nearest_f64_to_f32-single.ensures;
        finite = ap float_is_finite (sym c.nearest_f64_to_f32-single.ensures) ∙ sym c.if-not-is_finite-2.ensures.value;
        bytes_are = c.in_ok-bytes_of.ensures ∙ ap (little_bytes 4) c.from.ensures;
      };
    }
