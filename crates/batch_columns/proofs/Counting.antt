-- How many cells columns have, one column at a time.
use Rattle.std.proofs.Common.{◌≡◌, ℕ, suc, ◌+◌, ◌<◌, ◌≤◌, pos, ◌≤ℤ◌, List, [], ◌∷◌, ◌++◌, drop, length, slice_index_or, refl, sym, ap, ap₂, ◌∙◌, subst, arith}
use Rattle.std.proofs.lemmas.List.{at_drop_more, append-nil}
use Rattle.std.specs.List.{AllByRecursion}
use Rattle.std.proofs.lemmas.Int.{ints}
use Rattle.batch_types.specs.Cells.{Cell}
use Rattle.batch_types.specs.Canonical.{both_parts, parts_of, parts_inside, elements_parts, fields_parts, columns_parts}
use Rattle.batch_types.specs.Laid.{Node}
use Rattle.batch_types.specs.LaysOut.{values_limit}
use Rattle.batch_types.specs.Layouts.{Layout, null_layout, bits_layout, bytes_layout, binary_layout, utf8_layout}
use Rattle.batch_types.specs.Layouts.{list_layout, fixed_size_list_layout, struct_layout}
use Rattle.batch_types.specs.Shapes.{shape}
use Rattle.batch_columns.specs.Contents.{Contents, layout_in, shapes_in}
use Rattle.batch_columns.specs.Few.{columns_cells, nodes_held, AreFew}
use Rattle.batch_columns.specs.Held.{shapes_held}
use Rattle.batch_columns.specs.Kept.{HaveFields, HaveInside}
use Rattle.batch_columns.proofs.Beside.{whole_shape}

-- ---- lists

module _ {X : Type 0} (P : X → Type 0) where
  all_left : (xs ys : List X) → AllByRecursion P (xs ++ ys) → AllByRecursion P xs
  all_left [] ys all = tt
  all_left (x ∷ xs) ys all = (all.0, all_left xs ys all.1)

  all_right : (xs ys : List X) → AllByRecursion P (xs ++ ys) → AllByRecursion P ys
  all_right [] ys all = all
  all_right (x ∷ xs) ys all = all_right xs ys all.1

  all_both : (xs ys : List X) → AllByRecursion P xs → AllByRecursion P ys → AllByRecursion P (xs ++ ys)
  all_both [] ys left right = right
  all_both (x ∷ xs) ys left right = (left.0, all_both xs ys left.1 right)

-- ---- the nodes of a column are its own and those of the columns inside it

fields_held_parts : (k : ℕ) (cells : List Cell) (inside : List Contents) → HaveFields k cells inside
    → fields_parts (shapes_held inside) k cells ≡ columns_parts (shapes_held inside) (columns_cells inside)
fields_held_parts k cells [] have = refl
fields_held_parts k cells (child ∷ rest) have =
    ap₂ both_parts (ap (parts_of child.shape) (sym have.0)) (fields_held_parts (suc k) cells rest have.1)

one_held : (child : Contents) (rest : List Contents) → rest ≡ [] → (parts_of child.shape child.cells).nodes ≡ nodes_held (child ∷ rest)
one_held child rest none =
    sym (append-nil (parts_of child.shape child.cells).nodes)
    ∙ ap (λ more. (parts_of child.shape child.cells).nodes ++ nodes_held more) (sym none)

inside_nodes : (layout : Layout) (cells : List Cell) (inside : List Contents) → HaveInside layout cells inside
    → (parts_inside layout (elements_parts (shapes_held inside) cells) (fields_parts (shapes_held inside) 0 cells)).nodes ≡ nodes_held inside
inside_nodes null_layout cells inside have = ap nodes_held (sym have)
inside_nodes bits_layout cells inside have = ap nodes_held (sym have)
inside_nodes (bytes_layout size) cells inside have = ap nodes_held (sym have)
inside_nodes (binary_layout offset) cells inside have = ap nodes_held (sym have)
inside_nodes (utf8_layout offset) cells inside have = ap nodes_held (sym have)
inside_nodes (list_layout offset) cells [] have = absurd have
inside_nodes (list_layout offset) cells (child ∷ rest) have =
    ap (λ c. (parts_of child.shape c).nodes) (sym have.0) ∙ one_held child rest have.1
inside_nodes (fixed_size_list_layout size) cells [] have = absurd have
inside_nodes (fixed_size_list_layout size) cells (child ∷ rest) have =
    ap (λ c. (parts_of child.shape c).nodes) (sym have.0) ∙ one_held child rest have.1
inside_nodes struct_layout cells inside have = ap (λ p. p.nodes) (fields_held_parts 0 cells inside have)

abbrev IsFew : Node → Type 0
IsFew node = node.0 ≤ℤ pos values_limit

module _ (columns : List Contents) (i : ℕ) (x : Contents) (there : i < length columns) (is : x ≡ slice_index_or columns i x) where
  next_nodes : nodes_held (drop i columns) ≡ (parts_of x.shape x.cells).nodes ++ nodes_held (drop (i + 1) columns)
  next_nodes =
      at_drop_more nodes_held columns i x there
      ∙ ap (λ y. (parts_of y.shape y.cells).nodes ++ nodes_held (drop (i + 1) columns)) (sym is)

  -- a column's own node comes first
  pub own_few : AreFew (drop i columns) → length x.cells ≤ values_limit
  own_few few =
      let all = all_left IsFew (parts_of x.shape x.cells).nodes (nodes_held (drop (i + 1) columns)) (subst (AllByRecursion IsFew) next_nodes few) in
      let own = subst (λ s. AllByRecursion IsFew (parts_of s x.cells).nodes) (whole_shape x.shape) all in
      omega (arith, ints, own.0)

module _ (x : Contents) (inside : List Contents) (shapes : shapes_held inside ≡ shapes_in x) (held : HaveInside (layout_in x) x.cells inside) where
  inside_part : List Node
  inside_part = (parts_inside (layout_in x) (elements_parts (shapes_held inside) x.cells) (fields_parts (shapes_held inside) 0 x.cells)).nodes

  whole_parts : parts_of x.shape x.cells ≡ parts_of (shape (layout_in x) (shapes_held inside)) x.cells
  whole_parts = ap (λ s. parts_of s x.cells) (whole_shape x.shape ∙ ap (shape (layout_in x)) (sym shapes))

  few_parts : AllByRecursion IsFew (parts_of x.shape x.cells).nodes → (length x.cells ≤ values_limit) × AreFew inside
  few_parts few =
      let all = subst (λ p. AllByRecursion IsFew p.nodes) whole_parts few in
      let own : length x.cells ≤ values_limit = omega (arith, ints, all.0) in
      (own, subst (AllByRecursion IsFew) (inside_nodes (layout_in x) x.cells inside held) all.1)

  parts_few : length x.cells ≤ values_limit → AreFew inside → AllByRecursion IsFew (parts_of x.shape x.cells).nodes
  parts_few own few =
      let counted : pos (length x.cells) ≤ℤ pos values_limit = omega (arith, ints, own) in
      subst (λ p. AllByRecursion IsFew p.nodes) (sym whole_parts)
      (counted, subst (AllByRecursion IsFew) (sym (inside_nodes (layout_in x) x.cells inside held)) few)

  module _ (columns : List Contents) (i : ℕ) (there : i < length columns) (is : x ≡ slice_index_or columns i x) where
    pub few_here : AreFew (drop i columns) → AreFew inside × AreFew (drop (i + 1) columns)
    few_here few =
        let all = subst (AllByRecursion IsFew) (next_nodes columns i x there is) few in (
          (few_parts (all_left IsFew (parts_of x.shape x.cells).nodes (nodes_held (drop (i + 1) columns)) all)).1,
          all_right IsFew (parts_of x.shape x.cells).nodes (nodes_held (drop (i + 1) columns)) all,
        )

    pub few_from : length x.cells ≤ values_limit → AreFew inside → AreFew (drop (i + 1) columns) → AreFew (drop i columns)
    few_from own few rest =
        subst (AllByRecursion IsFew) (sym (next_nodes columns i x there is))
        (all_both IsFew (parts_of x.shape x.cells).nodes (nodes_held (drop (i + 1) columns)) (parts_few own few) rest)
