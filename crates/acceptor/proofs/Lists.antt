-- Lists that have an element.
use Rattle.std.proofs.Common.{◌≡◌, zero, suc, List, [], ◌∷◌, refl, sym, arith}
use Rattle.std.specs.List.{Contains}

pub nothing_in : {X : Type 0} (x : X) → ¬ Contains [] x
nothing_in x = λ has. absurd (omega (arith, has.1))

pub one_in : {X : Type 0} (x : X) → Contains (x ∷ []) x
one_in x = (0, omega arith, refl)

pub only_one : {X : Type 0} (x y : X) → Contains (x ∷ []) y → y ≡ x
only_one x y (zero, within, same) = sym same
only_one x y (suc k, within, same) = absurd (omega (arith, within))
