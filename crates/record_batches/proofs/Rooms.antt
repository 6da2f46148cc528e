-- There is room in all columns of a batch, those inside others too, so that what is written of it lays out its rows.
use Rattle.std.proofs.Common.{◌≡◌, sym, subst, ℕ, suc, ◌+◌, ◌<◌, ◌≤◌, List, [], ◌∷◌, length, slice_index_or, drop}
use Rattle.std.specs.List.{AllByRecursion}
use Rattle.std.proofs.lemmas.List.{at_drop_more}
use Rattle.std.proofs.Math.ListN.{drop_of_length-le}
use Rattle.header_types.specs.Fields.{SchemaTree}
use Rattle.header_types.specs.Header.{Head}
use Rattle.header_types.specs.Profile.{InProfile}
use Rattle.batch_types.specs.Cells.{Cell, Rows}
use Rattle.batch_types.specs.Canonical.{canonical_head, canonical_body}
use Rattle.batch_types.specs.LaysOut.{LaysOut}
use Rattle.batch_types.specs.Layouts.{Layout, null_layout, bits_layout, bytes_layout, binary_layout, utf8_layout}
use Rattle.batch_types.specs.Layouts.{list_layout, fixed_size_list_layout, struct_layout}
use Rattle.batch_types.specs.Shapes.{Shape, shape}
use Rattle.batch_types.specs.Typed.{IsCellOf, AreColumnsOfRows}
use Rattle.batch_types.specs.Written.{HasRoom, HasInside, AreRooms, AreElementRooms, AreFieldRooms, HaveRooms, CanBeWritten}
use Rattle.batch_columns.specs.Batches.{rows_of, IsBatchOf}
use Rattle.batch_columns.specs.Few.{columns_cells}
use Rattle.batch_columns.specs.Contents.{Contents, layout_of_shape, shapes_of_shape, layout_in, shapes_in}
use Rattle.batch_columns.specs.Held.{shapes_held}
use Rattle.batch_columns.specs.Kept.{HasElements, HaveFields, HaveInside}
use Rattle.batch_columns.specs.declared.batch.Batch.{Batch}
use Rattle.record_batches.specs.Sound.{IsSound, AreSound}

-- ---- one column

in_elements : (blanks : ℕ) (cells : List Cell) (inside : List Contents) → HasElements blanks cells inside → AreSound inside
    → AreElementRooms (shapes_held inside) cells blanks
in_elements blanks cells [] none sound = absurd none
in_elements blanks cells (child ∷ rest) has sound = subst (AreRooms child.shape) has.0 sound.0.room

in_fields : (k : ℕ) (cells : List Cell) (inside : List Contents) → HaveFields k cells inside → AreSound inside
    → AreFieldRooms (shapes_held inside) k cells
in_fields k cells [] have sound = tt
in_fields k cells (child ∷ rest) have sound =
    (subst (AreRooms child.shape) have.0 sound.0.room, in_fields (suc k) cells rest have.1 sound.1)

in_layout : (layout : Layout) (cells : List Cell) (inside : List Contents) → HaveInside layout cells inside → AreSound inside
    → HasInside layout (AreElementRooms (shapes_held inside) cells) (AreFieldRooms (shapes_held inside) 0 cells)
in_layout null_layout cells inside have sound = tt
in_layout bits_layout cells inside have sound = tt
in_layout (bytes_layout size) cells inside have sound = tt
in_layout (binary_layout offset) cells inside have sound = tt
in_layout (utf8_layout offset) cells inside have sound = tt
in_layout (list_layout offset) cells inside have sound = in_elements 0 cells inside have sound
in_layout (fixed_size_list_layout size) cells inside have sound = in_elements size cells inside have sound
in_layout struct_layout cells inside have sound = in_fields 0 cells inside have sound

by_shape : (s : Shape) (cells : List Cell) → HasRoom (layout_of_shape s) cells
    → HasInside (layout_of_shape s) (AreElementRooms (shapes_of_shape s) cells) (AreFieldRooms (shapes_of_shape s) 0 cells)
    → AreRooms s cells
by_shape (shape layout inside) cells room rest = (room, rest)

-- with what is inside it
pub sound_column : (column : Contents) (inside : List Contents) → shapes_held inside ≡ shapes_in column
    → HaveInside (layout_in column) column.cells inside → AllByRecursion (IsCellOf column.shape) column.cells
    → HasRoom (layout_in column) column.cells → AreSound inside → IsSound column
sound_column column inside shapes have fit room sound = record {
  fit = fit;
  room =
      by_shape column.shape column.cells room
      (subst (λ s. HasInside (layout_in column) (AreElementRooms s column.cells) (AreFieldRooms s 0 column.cells)) shapes
      (in_layout (layout_in column) column.cells inside have sound));
}

-- ---- the columns one after the other

pub sound_next : (columns : List Contents) (i : ℕ) (x : Contents) → i < length columns → x ≡ slice_index_or columns i x → IsSound x
    → AreSound (drop (i + 1) columns) → AreSound (drop i columns)
sound_next columns i x there is sound rest =
    subst AreSound (sym (at_drop_more (λ l. l) columns i x there)) (subst IsSound is sound, rest)

pub sound_end : (columns : List Contents) (i : ℕ) → length columns ≤ i → AreSound (drop i columns)
sound_end columns i over = subst AreSound (sym (drop_of_length-le columns over)) tt

-- ---- the batch

of_rows : (count : ℕ) (columns : List Contents) → AllByRecursion (λ column. length column.cells ≡ count) columns → AreSound columns
    → AreColumnsOfRows count (shapes_held columns) (columns_cells columns)
of_rows count [] counts sound = tt
of_rows count (column ∷ rest) counts sound = (counts.0, sound.0.fit, of_rows count rest counts.1 sound.1)

in_rows : (columns : List Contents) → AreSound columns → HaveRooms (shapes_held columns) (columns_cells columns)
in_rows [] sound = tt
in_rows (column ∷ rest) sound = (sound.0.room, in_rows rest sound.1)

-- the law of what is written
abbrev pub IsLaidOut : Type 0
IsLaidOut = (schema : SchemaTree) (rows : Rows) → InProfile schema → CanBeWritten schema rows
    → LaysOut schema (canonical_head schema rows) (canonical_body schema rows) rows

module _ (schema : SchemaTree) (batch : Batch) (columns : List Contents) (of_schema : IsBatchOf schema batch)
    (lent : columns ≡ batch.columns.items) (sound : AreSound columns) where
  held : AreSound batch.columns.items
  held = subst AreSound lent sound

  pub written : CanBeWritten schema (rows_of batch)
  written = record {
    of_schema = subst (λ s. AreColumnsOfRows batch.rows s (columns_cells batch.columns.items)) of_schema.shapes (of_rows batch.rows batch.columns.items of_schema.counts held);
    few = of_schema.rows_few;
    few_values = of_schema.values_few;
    room = subst (λ s. HaveRooms s (columns_cells batch.columns.items)) of_schema.shapes (in_rows batch.columns.items held);
  }

pub laid_out : (schema : SchemaTree) (rows : Rows) → CanBeWritten schema rows → IsLaidOut → (head : Head) (body : List ℕ)
    → head ≡ canonical_head schema rows → body ≡ canonical_body schema rows → InProfile schema → LaysOut schema head body rows
laid_out schema rows written law head body head_is body_is profile =
    subst (λ h. LaysOut schema h body rows) (sym head_is)
    (subst (λ b. LaysOut schema (canonical_head schema rows) b rows) (sym body_is) (law schema rows profile written))
