-- The columns that are read of a header one after the other are its columns.
use Rattle.std.proofs.Common.{◌≡◌, refl, sym, ap, ap₂, ◌∙◌, ℕ, zero, suc, ◌+◌, ◌-◌, ◌≤◌, pos, List, [], ◌∷◌, ◌++◌, length, take, drop, get_or, arith, length-drop, length-take}
use Rattle.header_types.specs.Fields.{Tree, tree, Forest, no_more, more, SchemaTree}
use Rattle.header_types.specs.Header.{Head}
use Rattle.batch_types.specs.Layouts.{layout_of, buffers_in_layout}
use Rattle.batch_types.specs.Laid.{Node, Range}
use Rattle.batch_types.specs.Laid.{nodes_of, nodes_in, buffers_of, buffers_in, IsColumnOf, AreColumnsOf, node_count, buffer_count}
use Rattle.batch_types.specs.LaysOut.{HasColumns}
use Rattle.batch_columns.specs.Sources.{nodes_of_tree, buffers_of_tree, column_from, columns_from}

-- ---- parts of lists

module _ {X : Type 0} where
  take_all : (xs : List X) (n : ℕ) → n ≡ length xs → take n xs ≡ xs
  take_all [] zero all = refl
  take_all [] (suc n) all = refl
  take_all (x ∷ xs) zero all = absurd (omega arith)
  take_all (x ∷ xs) (suc n) all = ap (λ l. x ∷ l) (take_all xs n (omega arith))

  take_nothing : (xs : List X) → take 0 xs ≡ []
  take_nothing [] = refl
  take_nothing (x ∷ xs) = refl

  take_seam : (m n : ℕ) (xs : List X) → take (m + n) xs ≡ take m xs ++ take n (drop m xs)
  take_seam zero n xs = ap (λ k. take k xs) (sum n)
    where
      sum : (k : ℕ) → 0 + k ≡ k
      sum k = omega arith
  take_seam (suc m) n [] = none (suc m + n) ∙ sym (none n)
    where
      none : (k : ℕ) → take {A = X} k [] ≡ []
      none zero = refl
      none (suc k) = refl
  take_seam (suc m) n (x ∷ xs) = ap (λ k. take k (x ∷ xs)) (sum m n) ∙ ap (λ l. x ∷ l) (take_seam m n xs)
    where
      sum : (j k : ℕ) → suc j + k ≡ suc (j + k)
      sum j k = omega arith

  first_and_rest : (m : ℕ) (d : X) (xs : List X) → 1 + m ≤ length xs → take (1 + m) xs ≡ get_or xs 0 d ∷ take m (drop 1 xs)
  first_and_rest m d [] some = absurd (omega arith)
  first_and_rest m d (x ∷ xs) some = ap (λ k. take k (x ∷ xs)) (sum m)
    where
      sum : (k : ℕ) → 1 + k ≡ suc k
      sum k = omega arith

-- ---- a column has the nodes and buffers that stand first

mutual
  column_listed : (t : Tree) (nodes : List Node) (ranges : List Range) → nodes_of_tree t ≤ length nodes → buffers_of_tree t ≤ length ranges
      → IsColumnOf t (column_from t nodes ranges) × (nodes_of (column_from t nodes ranges) ≡ take (nodes_of_tree t) nodes)
      × (buffers_of (column_from t nodes ranges) ≡ take (buffers_of_tree t) ranges)
  column_listed (tree field entries inside) nodes ranges enough long =
      let n : ℕ = buffers_in_layout (layout_of field.data_type) in
      let left : length (drop 1 nodes) ≡ length nodes - 1 = length-drop 1 nodes in
      let behind : length (drop (buffers_in_layout (layout_of field.data_type)) ranges) ≡ length ranges - buffers_in_layout (layout_of field.data_type) =
      length-drop (buffers_in_layout (layout_of field.data_type)) ranges in
      let inner = columns_listed inside (drop 1 nodes) (drop (buffers_in_layout (layout_of field.data_type)) ranges) (omega arith) (omega arith) in
      let taken : length (take (buffers_in_layout (layout_of field.data_type)) ranges) ≡ buffers_in_layout (layout_of field.data_type) =
      omega (arith, length-take (buffers_in_layout (layout_of field.data_type)) ranges) in (
        (refl, taken, inner.0),
        ap (λ l. get_or nodes 0 (pos 0, pos 0) ∷ l) inner.1 ∙ sym (first_and_rest (node_count inside) (pos 0, pos 0) nodes (omega arith)),
        ap (λ l. take (buffers_in_layout (layout_of field.data_type)) ranges ++ l) inner.2
            ∙ sym (take_seam (buffers_in_layout (layout_of field.data_type)) (buffer_count inside) ranges),
      )

  columns_listed : (f : Forest) (nodes : List Node) (ranges : List Range) → node_count f ≤ length nodes → buffer_count f ≤ length ranges
      → AreColumnsOf f (columns_from f nodes ranges) × (nodes_in (columns_from f nodes ranges) ≡ take (node_count f) nodes)
      × (buffers_in (columns_from f nodes ranges) ≡ take (buffer_count f) ranges)
  columns_listed no_more nodes ranges enough long = (tt, sym (take_nothing nodes), sym (take_nothing ranges))
  columns_listed (more t rest) nodes ranges enough long =
      let first = column_listed t nodes ranges (omega arith) (omega arith) in
      let left : length (drop (nodes_of_tree t) nodes) ≡ length nodes - nodes_of_tree t = length-drop (nodes_of_tree t) nodes in
      let behind : length (drop (buffers_of_tree t) ranges) ≡ length ranges - buffers_of_tree t = length-drop (buffers_of_tree t) ranges in
      let next = columns_listed rest (drop (nodes_of_tree t) nodes) (drop (buffers_of_tree t) ranges) (omega arith) (omega arith) in (
        (first.0, next.0),
        ap₂ ◌++◌ first.1 next.1 ∙ sym (take_seam (nodes_of_tree t) (node_count rest) nodes),
        ap₂ ◌++◌ first.2 next.2 ∙ sym (take_seam (buffers_of_tree t) (buffer_count rest) ranges),
      )

pub columns_are_read : (schema : SchemaTree) (head : Head) → length head.nodes ≡ node_count schema.fields
    → length head.buffers ≡ buffer_count schema.fields → HasColumns schema head (columns_from schema.fields head.nodes head.buffers)
columns_are_read schema head all every =
    let listed = columns_listed schema.fields head.nodes head.buffers (omega arith) (omega arith) in record {
      of_schema = listed.0;
      nodes = sym (listed.1 ∙ take_all head.nodes (node_count schema.fields) (sym all));
      buffers = sym (listed.2 ∙ take_all head.buffers (buffer_count schema.fields) (sym every));
    }
