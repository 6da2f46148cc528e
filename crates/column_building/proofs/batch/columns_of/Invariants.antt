use Rattle.std.proofs.Common.{◌++◌, List, map, drop}
use Rattle.batch_columns.specs.Contents.{Contents}
use Rattle.batch_columns.specs.FieldShapes.{field_shapes}
use Rattle.batch_cells.specs.CellViews.{cell_of}
use Rattle.column_building.specs.declared.fault.CellsFault.{CellsFault}
use Rattle.column_building.specs.Rows.{AreMade, IsToldOfFirst}
use Rattle.column_building.proofs.batch.columns_of.Given as goal

abbrev pub invariant-loop-index : goal.invariant-loop-index
invariant-loop-index l = record {
  made : (rest : List Contents)
      → AreMade (field_shapes (drop l.index l.fn.fields)) (map (λ cells. map cell_of cells.items) (drop l.index l.fn.columns)) rest
      → AreMade (field_shapes l.fn.fields) (map (λ cells. map cell_of cells.items) l.fn.columns) (l.made.items ++ rest);
  told : (fault : CellsFault)
      → IsToldOfFirst (field_shapes (drop l.index l.fn.fields)) (map (λ cells. map cell_of cells.items) (drop l.index l.fn.columns)) fault
      → IsToldOfFirst (field_shapes l.fn.fields) (map (λ cells. map cell_of cells.items) l.fn.columns) fault;
}
