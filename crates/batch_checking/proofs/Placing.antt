-- A column at its place of a header.
use Rattle.std.proofs.Common.{◌≡◌, refl, sym, ap, ◌∙◌, subst, ℕ, zero, suc, ◌+◌, ◌<◌, ◌≤◌, ◌≤ℤ◌, ◌==◌, true, false, true≢false, ℤ, pos, nat_abs, List, [], ◌∷◌, length, get_or, drop, arith}
use Rattle.std.proofs.lemmas.List.{get_or-drop}
use Rattle.std.proofs.lemmas.Bool.{eqb-true}
use Rattle.std.proofs.lemmas.Int.{ints}
use Rattle.header_types.specs.declared.schema.Field.{Field, out-Field}
use Rattle.header_types.specs.declared.header.BatchHead.{BatchHead}
use Rattle.header_types.specs.Fields.{Tree, tree}
use Rattle.header_types.specs.FieldView.{field_head_of}
use Rattle.header_types.specs.Views.{tree_of}
use Rattle.batch_types.specs.Layouts.{layout_of, buffers_in_layout}
use Rattle.batch_types.specs.Laid.{Node, Range, LaidColumns, column_then}
use Rattle.batch_types.specs.Rules.{first_length}
use Rattle.batch_types.specs.LaysOut.{values_limit}
use Rattle.batch_columns.specs.declared.place.Place.{Place}
use Rattle.batch_columns.specs.declared.encoded_column.EncodedColumn.{EncodedColumn}
use Rattle.batch_columns.specs.Sources.{nodes_of_tree, buffers_of_tree, column_from, columns_from}
use Rattle.batch_columns.specs.Read.{IsSourceOf, column_at}
use Rattle.batch_checking.specs.declared.around.Around.{Around}
use Rattle.batch_checking.specs.Checked.{ReachesIf}
use Rattle.batch_checking.specs.Columns.{forest_seen, inside_of, MayCheckOne, places_in}

-- ---- parts of lists

module _ {X : Type 0} where
  pub drop_nothing : (xs : List X) → drop 0 xs ≡ xs
  drop_nothing [] = refl
  drop_nothing (x ∷ xs) = refl

  drop_none : (n : ℕ) → drop {A = X} n [] ≡ []
  drop_none zero = refl
  drop_none (suc n) = refl

  pub drop_both : (m n : ℕ) (xs : List X) → drop m (drop n xs) ≡ drop (n + m) xs
  drop_both m zero xs = ap (drop m) (drop_nothing xs) ∙ ap (λ k. drop k xs) (sum m)
    where
      sum : (k : ℕ) → k ≡ 0 + k
      sum k = omega arith
  drop_both m (suc n) [] = ap (drop m) (drop_none (suc n)) ∙ drop_none m ∙ sym (drop_none (suc n + m))
  drop_both m (suc n) (x ∷ xs) = drop_both m n xs ∙ ap (λ k. drop k (x ∷ xs)) (sum n m)
    where
      sum : (j k : ℕ) → suc (j + k) ≡ suc j + k
      sum j k = omega arith

get_dropped : (nodes : List Node) (n : ℕ) → get_or (drop n nodes) 0 (pos 0, pos 0) ≡ get_or nodes n (pos 0, pos 0)
get_dropped nodes n = get_or-drop n nodes 0 (pos 0, pos 0) ∙ ap (λ k. get_or nodes k (pos 0, pos 0)) (sum n)
  where
    sum : (k : ℕ) → k + 0 ≡ k
    sum k = omega arith

get_next : (nodes : List Node) (n : ℕ) → get_or (drop 1 (drop n nodes)) 0 (pos 0, pos 0) ≡ get_or nodes (n + 1) (pos 0, pos 0)
get_next nodes n = ap (λ (l : List Node). get_or l 0 (pos 0, pos 0)) (drop_both 1 n nodes) ∙ get_dropped nodes (n + 1)

-- ---- the first of the columns inside

first_of_tree : (t : Tree) (rest : LaidColumns) (nodes : List Node) (ranges : List Range)
    → first_length (column_then (column_from t nodes ranges) rest) ≡ nat_abs (get_or nodes 0 (pos 0, pos 0)).0
first_of_tree (tree field entries inside) rest nodes ranges = refl

first_of_fields : (x : Field) (xs : List Field) (nodes : List Node) (ranges : List Range)
    → first_length (columns_from (forest_seen (x ∷ xs)) nodes ranges) ≡ nat_abs (get_or nodes 0 (pos 0, pos 0)).0
first_of_fields x xs nodes ranges =
    first_of_tree (tree_of x) (columns_from (forest_seen xs) (drop (nodes_of_tree (tree_of x)) nodes) (drop (buffers_of_tree (tree_of x)) ranges)) nodes ranges

inside_ranges : Field → BatchHead → Place → List Range
inside_ranges field head place = drop (buffers_in_layout (layout_of (field_head_of field).data_type)) (drop place.buffer head.buffers.items)

some_inside : (fields : List Field) (nodes : List Node) (n : ℕ) (ranges : List Range) → (fields ≡ [] → ⊥)
    → nat_abs (get_or nodes (n + 1) (pos 0, pos 0)).0 ≡ first_length (columns_from (forest_seen fields) (drop 1 (drop n nodes)) ranges)
some_inside [] nodes n ranges some = absurd (some refl)
some_inside (x ∷ xs) nodes n ranges some =
    ap (λ (node : Node). nat_abs node.0) (sym (get_next nodes n)) ∙ sym (first_of_fields x xs (drop 1 (drop n nodes)) ranges)

none_inside : (fields : List Field) (nodes : List Node) (ranges : List Range) → fields ≡ []
    → first_length (columns_from (forest_seen fields) nodes ranges) ≡ 0
none_inside fields nodes ranges is = ap (λ (l : List Field). first_length (columns_from (forest_seen l) nodes ranges)) is

pub first_there : (field : Field) (head : BatchHead) (place : Place) → ((out-Field field).children.items ≡ [] → ⊥)
    → nat_abs (get_or head.nodes.items (place.node + 1) (pos 0, pos 0)).0 ≡ first_length (inside_of (column_at field head place))
unfolding inside_ranges
first_there field head place some = some_inside (out-Field field).children.items head.nodes.items place.node (inside_ranges field head place) some

pub first_not_there : (field : Field) (head : BatchHead) (place : Place) → (out-Field field).children.items ≡ []
    → 0 ≡ first_length (inside_of (column_at field head place))
unfolding inside_ranges
first_not_there field head place none =
    sym (none_inside (out-Field field).children.items (drop 1 (drop place.node head.nodes.items)) (inside_ranges field head place) none)

-- ---- what is known of a column where it is checked

counted_few : (n : Node) (count : ℕ) (nulls : ℤ) → n ≡ (pos count, nulls) → n.0 ≤ℤ pos values_limit → count ≤ values_limit
counted_few n count nulls is few =
    let counted : pos count ≤ℤ pos values_limit = subst (λ (m : Node). m.0 ≤ℤ pos values_limit) is few in omega (arith, ints, counted)

module _ (body : List ℕ) (field : Field) (head : BatchHead) (place : Place) (asked : ℕ) (around : Around) (may : MayCheckOne field head place asked around) where
  pub node_there : place.node < length head.nodes.items
  node_there = omega (arith, may.nodes)

  pub buffers_there : place.buffer + buffers_in_layout (layout_of (field_head_of field).data_type) ≤ length head.buffers.items
  buffers_there = omega (arith, may.buffers)

  pub not_below : pos 0 ≤ℤ (get_or head.nodes.items place.node (pos 0, pos 0)).0
  not_below = (may.counted place.node node_there).0

  pub few_values : (s : EncodedColumn) → IsSourceOf body (column_at field head place) s → s.length ≤ values_limit
  few_values s of =
      counted_few (get_or head.nodes.items place.node (pos 0, pos 0)) s.length s.nulls (sym (get_dropped head.nodes.items place.node) ∙ of.node_is)
      (may.counted place.node node_there).1

  pub reaches : (s : EncodedColumn) → IsSourceOf body (column_at field head place) s → ReachesIf asked s.length (places_in around)
  reaches s of = subst (λ (n : Node). ReachesIf asked (nat_abs n.0) (places_in around)) of.node_is may.reach.0

-- ---- lists with and without an element

pub no_items : (xs : List Field) (n : ℕ) → n ≡ length xs → (n == 0) ≡ true → xs ≡ []
no_items [] n all none = refl
no_items (x ∷ xs) n all none = absurd (omega (arith, all, eqb-true n 0 none))

pub some_items : (xs : List Field) (n : ℕ) → n ≡ length xs → (n == 0) ≡ false → xs ≡ [] → ⊥
some_items xs n all some none = true≢false (sym (ap (λ k. k == 0) (all ∙ ap length none)) ∙ some)
