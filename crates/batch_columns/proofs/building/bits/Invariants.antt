use Rattle.std.proofs.Common.{◌≡◌, map, take}
use Rattle.batch_types.specs.Canonical.{bit_in}
use Rattle.batch_columns.specs.Made.{bit_or_null}
use Rattle.batch_columns.proofs.building.bits.Given as goal

abbrev pub invariant-loop-cell : goal.invariant-loop-cell
invariant-loop-cell l = l.bits ≡ map (λ cell. bit_in (bit_or_null cell)) (take l.cell-index l.fn.cells)
