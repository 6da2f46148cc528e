use Rattle.std.proofs.Common.{◌≡◌, ◌++◌, drop}
use Rattle.header_writing.specs.Written.{cells_bytes}
use Rattle.header_writing.proofs.layout.put_cells.Given as goal

abbrev pub invariant-loop-cell : goal.invariant-loop-cell
invariant-loop-cell l = l.text.items ++ cells_bytes (drop l.cell-index l.cells) ≡ l.fn.text.items ++ cells_bytes l.cells
