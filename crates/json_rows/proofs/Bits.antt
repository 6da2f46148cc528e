-- Floats by their bits.
use Rattle.std.proofs.Common.{◌≡◌, true}
use Rattle.std.specs.Prelude.{Float, T, not}
use Rattle.std.specs.Float.{float_is_finite}
use lib.Ieee.{nan, inf, fin, is_nan}

pub not_nan : (x : Float) → float_is_finite x ≡ true → T (not (is_nan x))
unfolding float_is_finite is_nan
not_nan nan finite = cc
not_nan (inf s) finite = tt
not_nan (fin s m e) finite = tt
