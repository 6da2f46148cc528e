-- A column stands deeper than those inside it.
use Rattle.std.specs.Prelude.{◌+◌, ◌≤◌, List, [], ◌∷◌}
use Rattle.std.proofs.Common.{arith}
use denote.Param.Weighed.{most}
use Rattle.batch_columns.specs.Contents.{Contents}
use Rattle.batch_columns.specs.Held.{height, heights, shapes_held}

-- the deepest of some columns is no deeper than all of them, one in the other
pub most_le-heights : (inside : List Contents) → most (λ c. height c.shape + 1) inside ≤ heights (shapes_held inside) + 1
most_le-heights [] = omega arith
most_le-heights (child ∷ rest) = omega (arith, most_le-heights rest)
