use Rattle.std.proofs.Common.{rules, sym}
use Rattle.std.specs.Prelude.{T}
use lib.Ieee.{fits, binary64, to_bits}
use lib.Ieee.Bits.{of_bits-to_bits, to_bits-lt}
use Rattle.json_rows.proofs.floats.finite_double_bytes.Goals as goal

pub returns-clause-read : goal.returns-clause-read
returns-clause-read c =
    let x = c.in-Some.double in
    let held : T (fits binary64 x) = search rules in
    record {
      double = x;
      told = sym c.in-Some.ensures;
      held = search rules;
      stands = record {
        stands = to_bits binary64 x;
        within = to_bits-lt binary64 x held;
        value_is = of_bits-to_bits binary64 x held;
        finite = sym c.if-not-is_finite.ensures.value;
        bytes_are = c.in_ok-bytes_of.ensures;
      };
    }
