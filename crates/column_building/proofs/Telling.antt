-- Whether cells are of fields, one at a time.
use Rattle.std.proofs.Common.{◌≡◌, suc, ◌<◌, Bool, List, [], ◌∷◌, map, length, slice_index_or, refl, sym, ap, ◌∙◌, subst, arith}
use Rattle.std.specs.List.{AllByRecursion}
use Rattle.header_types.specs.declared.schema.Field.{Field}
use Rattle.batch_types.specs.Cells.{Cell, bit_cell, list_cell, Cells, cells_of}
use Rattle.batch_types.specs.Layouts.{Layout, null_layout, bits_layout, bytes_layout, binary_layout, utf8_layout}
use Rattle.batch_types.specs.Layouts.{list_layout, fixed_size_list_layout, struct_layout}
use Rattle.batch_types.specs.Shapes.{Shape, shape, Shapes, no_shape}
use Rattle.batch_types.specs.Typed.{IsCellOf, IsElementOf, AreFieldsOf, AllCells, count_of}
use Rattle.batch_columns.specs.FieldShapes.{field_shapes}
use Rattle.batch_cells.specs.declared.cell.Cell.{Cell as Plain}
use Rattle.batch_cells.specs.CellViews.{cell_of}
use Rattle.column_building.specs.Whole.{field_shape}
use Rattle.column_building.specs.Kinds.{IsListOf}

-- each says that the other holds
pub record AreSame (P Q : Type 0) : Type 0 where
  pub to : P → Q
  pub from : Q → P

-- as many cells as fields
pub fields_long : (fields : List Field) (cells : List Plain) → AreFieldsOf (field_shapes fields) (cells_of (map cell_of cells)) → length fields ≡ length cells
fields_long [] [] all = refl
fields_long [] (cell ∷ cells) all = absurd all
fields_long (field ∷ fields) [] all = absurd all
fields_long (field ∷ fields) (cell ∷ cells) all = ap suc (fields_long fields cells all.1)

-- ---- elements

as_inside : (P : Cell → Type 0) (cells : List Cell) → AllByRecursion P cells → AllCells P (cells_of cells)
as_inside P [] all = tt
as_inside P (cell ∷ cells) all = (all.0, as_inside P cells all.1)

as_list : (P : Cell → Type 0) (cells : List Cell) → AllCells P (cells_of cells) → AllByRecursion P cells
as_list P [] all = tt
as_list P (cell ∷ cells) all = (all.0, as_list P cells all.1)

pub first_same : (fields : List Field) (x : Field) (cells : List Cell) → 0 < length fields → x ≡ slice_index_or fields 0 x
    → AreSame (AllByRecursion (IsCellOf (field_shape x)) cells) (AllCells (IsElementOf (field_shapes fields)) (cells_of cells))
first_same [] x cells there is = absurd (omega arith)
first_same (field ∷ fields) x cells there is =
    record {
      to = λ all. as_inside (IsCellOf (field_shape field)) cells (subst (λ f. AllByRecursion (IsCellOf (field_shape f)) cells) is all);
      from = λ all. subst (λ f. AllByRecursion (IsCellOf (field_shape f)) cells) (sym is) (as_list (IsCellOf (field_shape field)) cells all);
    }

pub none_same : (fields : List Field) (cells : List Plain) → length fields ≡ 0
    → AreSame (length cells ≡ 0) (AllCells (IsElementOf (field_shapes fields)) (cells_of (map cell_of cells)))
none_same [] [] none = record { to = λ gone. tt; from = λ all. refl }
none_same [] (cell ∷ cells) none = record { to = λ gone. absurd (omega arith); from = λ all. absurd all.0 }
none_same (field ∷ fields) cells none = absurd (omega arith)

-- ---- one cell

count_seen : (cells : List Cell) → count_of (cells_of cells) ≡ length cells
count_seen [] = refl
count_seen (cell ∷ cells) = ap suc (count_seen cells)

counted : (cells : List Plain) → length (map cell_of cells) ≡ length cells
counted [] = refl
counted (cell ∷ cells) = ap suc (counted cells)

bits_any : (layout : Layout) (inside other : Shapes) (bit : Bool) → IsCellOf (shape layout inside) (bit_cell bit) → IsCellOf (shape layout other) (bit_cell bit)
bits_any null_layout inside other bit fits = fits
bits_any bits_layout inside other bit fits = fits
bits_any (bytes_layout size) inside other bit fits = fits
bits_any (binary_layout offset) inside other bit fits = fits
bits_any (utf8_layout offset) inside other bit fits = fits
bits_any (list_layout offset) inside other bit fits = fits
bits_any (fixed_size_list_layout size) inside other bit fits = fits
bits_any struct_layout inside other bit fits = fits

list_fits : (layout : Layout) (inside : Shapes) (cells : Cells)
    → AreSame (IsListOf layout (count_of cells) × AllCells (IsElementOf inside) cells) (IsCellOf (shape layout inside) (list_cell cells))
list_fits null_layout inside cells = record { to = λ h. h.0; from = λ h. absurd h }
list_fits bits_layout inside cells = record { to = λ h. h.0; from = λ h. absurd h }
list_fits (bytes_layout size) inside cells = record { to = λ h. h.0; from = λ h. absurd h }
list_fits (binary_layout offset) inside cells = record { to = λ h. h.0; from = λ h. absurd h }
list_fits (utf8_layout offset) inside cells = record { to = λ h. h.0; from = λ h. absurd h }
list_fits (list_layout offset) inside cells = record { to = λ h. h.1; from = λ h. (tt, h) }
list_fits (fixed_size_list_layout size) inside cells = record { to = λ h. h; from = λ h. h }
list_fits struct_layout inside cells = record { to = λ h. h.0; from = λ h. absurd h }

-- of a shape that is of this layout around these
module _ (s : Shape) (layout : Layout) (inside : Shapes) (made : shape layout inside ≡ s) where
  pub bit_same : (bit : Bool) → AreSame (IsCellOf (shape layout no_shape) (bit_cell bit)) (IsCellOf s (bit_cell bit))
  bit_same bit =
      record {
        to = λ h. subst (λ x. IsCellOf x (bit_cell bit)) made (bits_any layout no_shape inside bit h);
        from = λ h. bits_any layout inside no_shape bit (subst (λ x. IsCellOf x (bit_cell bit)) (sym made) h);
      }

  pub list_same : (cells : List Plain)
      → AreSame (IsListOf layout (length cells) × AllCells (IsElementOf inside) (cells_of (map cell_of cells))) (IsCellOf s (list_cell (cells_of (map cell_of cells))))
  list_same cells =
      let inner : Cells = cells_of (map cell_of cells) in
      let long : count_of inner ≡ length cells = count_seen (map cell_of cells) ∙ counted cells in
      let fits = list_fits layout inside inner in
      record {
        to = λ h. subst (λ x. IsCellOf x (list_cell inner)) made (fits.to (subst (IsListOf layout) (sym long) h.0, h.1));
        from =
            λ h.
            let both = fits.from (subst (λ x. IsCellOf x (list_cell inner)) (sym made) h) in
            (subst (IsListOf layout) long both.0, both.1);
      }
