-- What is written of a column is its own buffers, and then what is written of the columns inside it.
use Rattle.std.proofs.Common.{◌≡◌, refl, sym, ap, ap₂, subst, ◌∙◌, ℕ, zero, suc, ◌+◌, ◌<◌, ◌≤◌, pos, ◌≤ℤ◌, List, [], ◌∷◌, ◌++◌, length, slice_index_or, drop, arith}
use Rattle.std.specs.List.{AllByRecursion}
use Rattle.std.proofs.lemmas.Int.{ints}
use Rattle.std.proofs.lemmas.List.{append-nil, at_drop_more}
use Rattle.std.proofs.Math.ListN.{drop_of_length-le}
use Rattle.batch_types.specs.Cells.{Cell}
use Rattle.batch_types.specs.Laid.{Node}
use Rattle.batch_types.specs.LaysOut.{values_limit}
use Rattle.batch_types.specs.Layouts.{Layout, null_layout, bits_layout, bytes_layout, binary_layout, utf8_layout}
use Rattle.batch_types.specs.Layouts.{list_layout, fixed_size_list_layout, struct_layout}
use Rattle.batch_types.specs.Shapes.{Shape, shape}
use Rattle.batch_types.specs.Canonical.{Parts, no_parts, both_parts, own_parts, parts_inside, parts_of, elements_parts, fields_parts, columns_parts}
use Rattle.batch_columns.specs.Few.{columns_cells}
use Rattle.batch_columns.specs.Contents.{Contents, layout_of_shape, shapes_of_shape, layout_in, shapes_in}
use Rattle.batch_columns.specs.Held.{shapes_held, height, heights}
use Rattle.batch_columns.specs.Kept.{HasElements, HaveFields, HaveInside}
use Rattle.record_batches.specs.Parts.{parts_held}
use Rattle.record_batches.specs.Adds.{Adds}
use Rattle.record_batches.specs.declared.head.HeadWriter.{HeadWriter}
use Rattle.record_batches.proofs.Adding.{adds_none, adds_both}

-- ---- the columns inside one

both_none : (p : Parts) → both_parts p no_parts ≡ p
both_none p = ap₂ (λ nodes buffers. let r : Parts = record { nodes = nodes; buffers = buffers } in r) (append-nil p.nodes) (append-nil p.buffers)

elements_held : (blanks : ℕ) (cells : List Cell) (inside : List Contents) → HasElements blanks cells inside
    → elements_parts (shapes_held inside) cells blanks ≡ parts_held inside
elements_held blanks cells [] none = absurd none
elements_held blanks cells (child ∷ rest) has =
    ap (parts_of child.shape) (sym has.0) ∙ sym (both_none (parts_of child.shape child.cells))
    ∙ ap (λ others. both_parts (parts_of child.shape child.cells) (parts_held others)) (sym has.1)

fields_held : (k : ℕ) (cells : List Cell) (inside : List Contents) → HaveFields k cells inside
    → fields_parts (shapes_held inside) k cells ≡ parts_held inside
fields_held k cells [] have = refl
fields_held k cells (child ∷ rest) have =
    ap₂ both_parts (ap (parts_of child.shape) (sym have.0)) (fields_held (suc k) cells rest have.1)

none_held : (inside : List Contents) → inside ≡ [] → no_parts ≡ parts_held inside
none_held inside none = ap parts_held (sym none)

inside_held : (layout : Layout) (cells : List Cell) (inside : List Contents) → HaveInside layout cells inside
    → parts_inside layout (elements_parts (shapes_held inside) cells) (fields_parts (shapes_held inside) 0 cells) ≡ parts_held inside
inside_held null_layout cells inside have = none_held inside have
inside_held bits_layout cells inside have = none_held inside have
inside_held (bytes_layout size) cells inside have = none_held inside have
inside_held (binary_layout offset) cells inside have = none_held inside have
inside_held (utf8_layout offset) cells inside have = none_held inside have
inside_held (list_layout offset) cells inside have = elements_held 0 cells inside have
inside_held (fixed_size_list_layout size) cells inside have = elements_held size cells inside have
inside_held struct_layout cells inside have = fields_held 0 cells inside have

pub parts_by_shape : (s : Shape) (cells : List Cell) → parts_of s cells
    ≡ both_parts (own_parts (layout_of_shape s) cells) (parts_inside (layout_of_shape s) (elements_parts (shapes_of_shape s) cells) (fields_parts (shapes_of_shape s) 0 cells))
parts_by_shape (shape layout inside) cells = refl

-- a column and the columns inside it
pub column_parts : (column : Contents) (inside : List Contents) → shapes_held inside ≡ shapes_in column → HaveInside (layout_in column) column.cells inside
    → parts_of column.shape column.cells ≡ both_parts (own_parts (layout_in column) column.cells) (parts_held inside)
column_parts column inside shapes have =
    parts_by_shape column.shape column.cells
    ∙ ap (λ s. both_parts (own_parts (layout_in column) column.cells)
    (parts_inside (layout_in column) (elements_parts s column.cells) (fields_parts s 0 column.cells))) (sym shapes)
    ∙ ap (both_parts (own_parts (layout_in column) column.cells)) (inside_held (layout_in column) column.cells inside have)

-- the parts of a batch are those of its columns
pub held_parts : (columns : List Contents) → columns_parts (shapes_held columns) (columns_cells columns) ≡ parts_held columns
held_parts [] = refl
held_parts (column ∷ rest) = ap (both_parts (parts_of column.shape column.cells)) (held_parts rest)

-- ---- nodes with few values

abbrev pub HaveFew : Parts → Type 0
HaveFew parts = AllByRecursion (λ node. node.0 ≤ℤ pos values_limit) parts.nodes

few_parts : (xs ys : List Node) → AllByRecursion (λ node. node.0 ≤ℤ pos values_limit) (xs ++ ys)
    → AllByRecursion (λ node. node.0 ≤ℤ pos values_limit) xs × AllByRecursion (λ node. node.0 ≤ℤ pos values_limit) ys
few_parts [] ys few = (tt, few)
few_parts (x ∷ xs) ys few = let parts = few_parts xs ys few.1 in ((few.0, parts.0), parts.1)

-- ---- what is inside a column is less deep

height_there : (columns : List Contents) (i : ℕ) (x : Contents) → i < length columns → x ≡ slice_index_or columns i x
    → height x.shape ≤ heights (shapes_held columns)
height_there [] i x there is = absurd (omega arith)
height_there (column ∷ columns) zero x there is =
    subst (λ c. height c.shape ≤ heights (shapes_held (column ∷ columns))) (sym is) (omega arith)
height_there (column ∷ columns) (suc i) x there is =
    omega (arith, height_there columns i x (omega arith) is)

height_whole : (s : Shape) → height s ≡ suc (heights (shapes_of_shape s))
height_whole (shape layout inside) = refl

-- ---- the columns one after the other

module _ (columns : List Contents) (i : ℕ) (x : Contents) (there : i < length columns) (is : x ≡ slice_index_or columns i x) where
  pub columns_next : parts_held (drop i columns) ≡ both_parts (parts_of x.shape x.cells) (parts_held (drop (i + 1) columns))
  columns_next =
      at_drop_more parts_held columns i x there
      ∙ ap (λ y. both_parts (parts_of y.shape y.cells) (parts_held (drop (i + 1) columns))) (sym is)

  pub falls : (inside : List Contents) → shapes_held inside ≡ shapes_in x → heights (shapes_held inside) < heights (shapes_held columns)
  falls inside same = omega (arith, height_there columns i x there is, height_whole x.shape, ap heights same)

  few_next : HaveFew (parts_held (drop i columns)) → HaveFew (parts_of x.shape x.cells) × HaveFew (parts_held (drop (i + 1) columns))
  few_next few =
      few_parts (parts_of x.shape x.cells).nodes (parts_held (drop (i + 1) columns)).nodes (subst HaveFew columns_next few)

  pub few_own : HaveFew (parts_held (drop i columns)) → length x.cells ≤ values_limit
  few_own few =
      let own = subst HaveFew (parts_by_shape x.shape x.cells) (few_next few).0 in
      let node : pos (length x.cells) ≤ℤ pos values_limit = own.0 in omega (arith, ints)

  pub few_rest : HaveFew (parts_held (drop i columns)) → HaveFew (parts_held (drop (i + 1) columns))
  few_rest few = (few_next few).1

  module _ (inside : List Contents) (shapes : shapes_held inside ≡ shapes_in x) (have : HaveInside (layout_in x) x.cells inside) where
    pub few_inside : HaveFew (parts_held (drop i columns)) → HaveFew (parts_held inside)
    few_inside few =
        (few_parts (own_parts (layout_in x) x.cells).nodes (parts_held inside).nodes
        (subst HaveFew (column_parts x inside shapes have) (few_next few).0)).1

    pub adds_next : (u v w after : HeadWriter) → Adds u v (own_parts (layout_in x) x.cells) → Adds v w (parts_held inside)
        → Adds w after (parts_held (drop (i + 1) columns)) → Adds u after (parts_held (drop i columns))
    adds_next u v w after own inner rest =
        subst (Adds u after) (sym (columns_next ∙ ap (λ p. both_parts p (parts_held (drop (i + 1) columns))) (column_parts x inside shapes have)))
        (adds_both u w after (both_parts (own_parts (layout_in x) x.cells) (parts_held inside)) (parts_held (drop (i + 1) columns))
        (adds_both u v w (own_parts (layout_in x) x.cells) (parts_held inside) own inner) rest)

pub adds_end : (w : HeadWriter) (columns : List Contents) (i : ℕ) → length columns ≤ i → Adds w w (parts_held (drop i columns))
adds_end w columns i over = subst (λ l. Adds w w (parts_held l)) (sym (drop_of_length-le columns over)) (adds_none w)
