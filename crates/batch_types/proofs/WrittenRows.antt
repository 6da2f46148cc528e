-- What is written of rows lays out these rows.
use Rattle.std.proofs.Common.{◌≡◌, refl, sym, ap, ap₂, ◌∙◌, subst, ℕ, ◌<◌, Bool, pos, ◌≤ℤ◌, List, [], ◌∷◌, length, get_or, map, arith}
use Rattle.std.specs.List.{AllByRecursion, range_with_len}
use Rattle.std.proofs.lemmas.Int.{ints}
use Rattle.std.proofs.lemmas.List.{take_all}
use Rattle.std.proofs.Math.Seq.{take-length}
use Rattle.bitmaps.specs.Packed.{IsPacked}
use Rattle.bitmaps.specs.Packing.{packed_bytes}
use Rattle.header_types.specs.Fields.{SchemaTree}
use Rattle.header_types.specs.Profile.{InProfile}
use Rattle.batch_types.specs.Cells.{Cell, null_cell, Rows}
use Rattle.batch_types.specs.Shapes.{Shape, shape, Shapes, no_shape, shape_then, shapes_of}
use Rattle.batch_types.specs.Typed.{AreColumnsOfRows}
use Rattle.batch_types.specs.Laid.{Node, LaidColumns}
use Rattle.batch_types.specs.Placed.{cell_at}
use Rattle.batch_types.specs.LaysOut.{values_limit, HasRowsWithin, LaysOut, AreSound, body_of, columns_at}
use Rattle.batch_types.specs.Canonical.{parts_of, columns_parts, canonical_parts, canonical_body, canonical_head}
use Rattle.batch_types.specs.Written.{CanBeWritten}
use Rattle.batch_types.proofs.Typing.{run_below}
use Rattle.batch_types.proofs.ReadBack.{all_at}
use Rattle.batch_types.proofs.WrittenCells.{cut}
use Rattle.batch_types.proofs.Unique.{one_batch}
use Rattle.batch_types.proofs.Standing.{end_of, stand_whole}
use Rattle.batch_types.proofs.WrittenColumns.{columns_in, column_of, columns_of, inside_as_columns, columns_nodes, columns_ranges, Cover, of_forest, nodes_count, ranges_count}
use Rattle.batch_types.proofs.WrittenInside.{formed_forest, all_joined, ColumnsFit, AreWritten, all_written}
use Rattle.batch_types.proofs.WrittenBack.{map_same, cell_back, sound_columns}

-- ---- columns of rows

rows_cover : (count : ℕ) (inside : Shapes) (columns : List (List Cell)) → AreColumnsOfRows count inside columns → Cover inside columns
rows_cover count no_shape columns of = tt
rows_cover count (shape_then s rest) [] of = absurd of
rows_cover count (shape_then s rest) (cells ∷ columns) of = rows_cover count rest columns of.2

rows_fit : (count : ℕ) (inside : Shapes) (columns : List (List Cell)) → AreColumnsOfRows count inside columns → ColumnsFit count inside columns
rows_fit count no_shape columns of = tt
rows_fit count (shape_then s rest) [] of = absurd of
rows_fit count (shape_then s rest) (cells ∷ columns) of = (omega (arith, of.0), of.1, rows_fit count rest columns of.2)

-- ---- nodes

abbrev IsCounted : Node → Type 0
IsCounted node = pos 0 ≤ℤ node.0

mutual
  column_counted : (s : Shape) (cells : List Cell) → AllByRecursion IsCounted (parts_of s cells).nodes
  column_counted (shape l inside) cells = (
    omega (arith, ints),
    subst (λ p. AllByRecursion IsCounted p.nodes) (sym (inside_as_columns l inside cells)) (columns_counted inside (columns_in l inside cells)),
  )

  columns_counted : (inside : Shapes) (columns : List (List Cell)) → AllByRecursion IsCounted (columns_parts inside columns).nodes
  columns_counted no_shape columns = tt
  columns_counted (shape_then s rest) [] = tt
  columns_counted (shape_then s rest) (cells ∷ columns) =
      all_joined IsCounted (parts_of s cells).nodes (columns_parts rest columns).nodes (column_counted s cells) (columns_counted rest columns)

rows_within : (schema : SchemaTree) (rows : Rows) → CanBeWritten schema rows → HasRowsWithin (canonical_head schema rows)
rows_within schema rows can = record {
  counted = omega (arith, ints);
  few = omega (arith, ints, can.few);
  nodes_counted = λ k within. all_at IsCounted (canonical_parts schema rows).nodes k (pos 0, pos 0) (columns_counted (shapes_of schema.fields) rows.columns) within;
  nodes_few = λ k within. all_at (λ node. node.0 ≤ℤ pos values_limit) (canonical_parts schema rows).nodes k (pos 0, pos 0) can.few_values within;
}

-- ---- rows

module _ (packed : (bits : List Bool) → IsPacked bits (packed_bytes bits)) where
  column_back : (body : List ℕ) (s : Shape) (place : ℕ) (cells : List Cell) (count : ℕ)
      → ((j : ℕ) → j < length cells → cell_at body (column_of place s cells) j ≡ get_or cells j null_cell) → length cells ≡ count
      → map (cell_at body (column_of place s cells)) (range_with_len 0 count) ≡ cells
  column_back body s place cells count same long =
      map_same (cell_at body (column_of place s cells)) (λ k. get_or cells k null_cell) (λ j. j < length cells) same
      (range_with_len 0 count) (run_below 0 count (length cells) (omega (arith, long)))
      ∙ cut cells 0 count null_cell (omega (arith, long))
      ∙ take_all count cells (omega (arith, long))

  columns_back : (body : List ℕ) (inside : Shapes) (place : ℕ) (columns : List (List Cell)) (count : ℕ) → AreWritten body count place inside columns
      → AreColumnsOfRows count inside columns → columns_at body (columns_of place inside columns) count ≡ columns
  columns_back body no_shape place [] count written of = refl
  columns_back body no_shape place (cells ∷ columns) count written of = absurd of
  columns_back body (shape_then s rest) place [] count written of = absurd of
  columns_back body (shape_then s rest) place (cells ∷ columns) count written of =
      ap₂ (λ x xs. x ∷ xs)
      (column_back body s place cells count (cell_back packed body s place cells written.1) of.0)
      (columns_back body rest (end_of place (parts_of s cells).buffers) columns count written.2 of.2)

  pub rows_laid_out : (schema : SchemaTree) (rows : Rows) → InProfile schema → CanBeWritten schema rows
      → LaysOut schema (canonical_head schema rows) (canonical_body schema rows) rows
  rows_laid_out schema rows profile can =
      let shapes : Shapes = shapes_of schema.fields in
      let body : List ℕ = canonical_body schema rows in
      let columns : LaidColumns = columns_of 0 shapes rows.columns in
      let whole : body_of (canonical_head schema rows) body ≡ body = take-length body in
      let of_schema = of_forest schema.fields 0 rows.columns profile.well_formed (rows_cover rows.count shapes rows.columns can.of_schema) in
      let nodes = sym (columns_nodes 0 shapes rows.columns) in
      let ranges = sym (columns_ranges 0 shapes rows.columns) in
      let written : AreWritten body rows.count 0 shapes rows.columns =
      all_written body rows.count 0 shapes rows.columns (stand_whole [] (canonical_parts schema rows).buffers)
      (formed_forest schema.fields profile.well_formed) (rows_fit rows.count shapes rows.columns can.of_schema) can.room in
      record {
        head_kept = (
          refl,
          (
            rows_within schema rows can,
            (
              ap length nodes ∙ nodes_count schema.fields columns of_schema,
              (
                ap length ranges ∙ ranges_count schema.fields columns of_schema,
                (record { counted = omega (arith, ints); there = omega (arith, ints) }, tt),
              ),
            ),
          ),
        );
        columns = columns;
        columns_are = record { of_schema = of_schema; nodes = nodes; buffers = ranges };
        sound =
            subst (λ b. AreSound b columns rows.count (range_with_len 0 rows.count)) (sym whole)
            (sound_columns packed body shapes 0 rows.columns rows.count written rows.count (range_with_len 0 rows.count) (omega arith)
            (run_below 0 rows.count rows.count (omega arith)));
        count = refl;
        cells =
            sym (ap (λ b. columns_at b columns rows.count) whole ∙ columns_back body shapes 0 rows.columns rows.count written can.of_schema);
      }

  pub rows_only : (schema : SchemaTree) (rows others : Rows) → InProfile schema → CanBeWritten schema rows
      → LaysOut schema (canonical_head schema rows) (canonical_body schema rows) others → others ≡ rows
  rows_only schema rows others profile can laid_out =
      one_batch schema (canonical_head schema rows) (canonical_body schema rows) others rows laid_out (rows_laid_out schema rows profile can)
