-- Columns that are built have no more values than a node may have.
use Rattle.std.proofs.Common.{◌≡◌, subst, ℕ, suc, ◌≤◌, pos, ◌≤ℤ◌, List, [], ◌∷◌, map, length, arith}
use Rattle.std.proofs.lemmas.Int.{ints}
use Rattle.std.specs.List.{AllByRecursion}
use Rattle.batch_types.specs.Cells.{Cell}
use Rattle.batch_types.specs.Laid.{Node}
use Rattle.batch_types.specs.LaysOut.{values_limit}
use Rattle.batch_types.specs.Layouts.{Layout, null_layout, bits_layout, bytes_layout, binary_layout, utf8_layout}
use Rattle.batch_types.specs.Layouts.{list_layout, fixed_size_list_layout, struct_layout}
use Rattle.batch_types.specs.Shapes.{shape}
use Rattle.batch_types.specs.Canonical.{blank_of, field_or, parts_of, elements_parts, fields_parts, columns_parts}
use Rattle.batch_columns.specs.Few.{columns_cells}
use Rattle.batch_columns.specs.Contents.{Contents}
use Rattle.batch_columns.specs.Held.{shapes_held}
use Rattle.batch_columns.specs.Kept.{HasElements, HaveFields, HaveInside}
use Rattle.batch_reading.specs.declared.selection.Selection.{Selection}
use Rattle.batch_reading.specs.Spots.{IsSelection}
use Rattle.batch_reading.specs.Readable.{HasFewValues, HaveFewValues}
use Rattle.batch_reading.proofs.Bounding.{both_all}
use Rattle.batch_reading.proofs.Gathering.{run_count}

abbrev IsFew : Node → Type 0
IsFew node = node.0 ≤ℤ pos values_limit

pub wanted_few : (limit : ℕ) (selection : Selection) → IsSelection limit selection → (n : ℕ) → n ≡ selection.count → n ≤ values_limit
wanted_few limit selection is n same = omega (arith, same, is.counted, is.few, run_count 0 limit selection.runs.now is.rising)

count_few : (n : ℕ) → n ≤ values_limit → pos n ≤ℤ pos values_limit
count_few n few = omega (arith, ints, few)

elements_few : (blanks : ℕ) (cells : List Cell) (inside : List Contents) → HasElements blanks cells inside → HaveFewValues inside
    → AllByRecursion IsFew (elements_parts (shapes_held inside) cells blanks).nodes
elements_few blanks cells [] has few = absurd has
elements_few blanks cells (child ∷ rest) has few =
    subst (λ cs. AllByRecursion IsFew (parts_of child.shape cs).nodes) has.0 few.0

fields_few : (k : ℕ) (cells : List Cell) (inside : List Contents) → HaveFields k cells inside → HaveFewValues inside
    → AllByRecursion IsFew (fields_parts (shapes_held inside) k cells).nodes
fields_few k cells [] have few = tt
fields_few k cells (child ∷ rest) have few =
    both_all IsFew (parts_of child.shape (map (field_or (blank_of child.shape) k) cells)).nodes (fields_parts (shapes_held rest) (suc k) cells).nodes
    (subst (λ cs. AllByRecursion IsFew (parts_of child.shape cs).nodes) have.0 few.0) (fields_few (suc k) cells rest have.1 few.1)

pub few_of : (layout : Layout) (cells : List Cell) (inside : List Contents) → length cells ≤ values_limit → HaveInside layout cells inside → HaveFewValues inside
    → HasFewValues (shape layout (shapes_held inside)) cells
few_of null_layout cells inside few has below = (count_few (length cells) few, tt)
few_of bits_layout cells inside few has below = (count_few (length cells) few, tt)
few_of (bytes_layout size) cells inside few has below = (count_few (length cells) few, tt)
few_of (binary_layout offset) cells inside few has below = (count_few (length cells) few, tt)
few_of (utf8_layout offset) cells inside few has below = (count_few (length cells) few, tt)
few_of (list_layout offset) cells inside few has below = (count_few (length cells) few, elements_few 0 cells inside has below)
few_of (fixed_size_list_layout size) cells inside few has below = (count_few (length cells) few, elements_few size cells inside has below)
few_of struct_layout cells inside few has below = (count_few (length cells) few, fields_few 0 cells inside has below)

-- and so all columns of a batch
pub columns_few : (columns : List Contents) → HaveFewValues columns → AllByRecursion IsFew (columns_parts (shapes_held columns) (columns_cells columns)).nodes
columns_few [] few = tt
columns_few (column ∷ columns) few =
    both_all IsFew (parts_of column.shape column.cells).nodes (columns_parts (shapes_held columns) (columns_cells columns)).nodes few.0 (columns_few columns few.1)
