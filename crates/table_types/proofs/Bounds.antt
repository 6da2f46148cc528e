-- What an upload's encoding holds is no longer than it, and what stands in the header of a batch are numbers of 64 bits.
use Rattle.std.proofs.Common.{◌≡◌, refl, sym, ap, ap₂, subst, ◌∙◌, ℕ, zero, suc, ◌+◌, ◌-◌, ◌*◌, ◌/◌, ◌<◌, ◌≤◌, ◌^◌, ◌==◌, ℤ, pos, ◌≤ℤ◌, Bool, true, false, not, cond, if◌then◌else◌, w64, List, [], ◌∷◌, ◌++◌, map, length, replicate, length-append, arith, rules}
use Rattle.std.proofs.lemmas.Int.{ints}
use Rattle.std.proofs.lemmas.Bool.{eqb-true}
use Rattle.std.proofs.lemmas.List.{length-replicate}
use Rattle.std.proofs.lemmas.List.Sums.{sum_by-cons}
use Rattle.std.proofs.lemmas.Grind.{flat_map-append}
use Rattle.std.specs.Int.RustNames.{FitsSigned}
use Rattle.std.specs.List.{AllByRecursion, flat_map}
use Rattle.proto_fields.specs.Field.{Held, Varint, Bytes, Field, field_text, fields_text, present}
use Rattle.proto_fields.specs.Varint.{varint_text}
use Rattle.proto_messages.specs.Canonical.{bytes_field}
use Rattle.header_types.specs.Fields.{Tree, tree, Forest, no_more, more}
use Rattle.header_types.specs.Limits.{tree_sum, forest_sum}
use Rattle.header_writing.specs.Written.{FitsPair}
use Rattle.batch_types.specs.Cells.{Cell}
use Rattle.batch_types.specs.Laid.{Node, Range, node_count, buffer_count}
use Rattle.batch_types.specs.Layouts.{Layout, null_layout, bits_layout, bytes_layout, binary_layout, utf8_layout}
use Rattle.batch_types.specs.Layouts.{list_layout, fixed_size_list_layout, struct_layout, layout_of, buffers_in_layout}
use Rattle.batch_types.specs.Shapes.{Shape, shape, Shapes, no_shape, shape_then}
use Rattle.batch_types.specs.Canonical.{is_null, nulls_of, Parts, no_parts, both_parts, own_parts, parts_inside, parts_of, elements_parts, fields_parts}
use Rattle.batch_types.specs.Canonical.{columns_parts, padded, body_with, ranges_from, elements_or, field_or, blank_of}
use Rattle.batch_types.specs.LaysOut.{values_limit}

-- ---- fields

text_long : (f : Field) (rest : List Field) → length (fields_text (f ∷ rest)) ≡ length (field_text f) + length (fields_text rest)
text_long f rest = length-append (field_text f) (fields_text rest)

held_long : (number : ℕ) (bytes : List ℕ) → length bytes ≤ length (field_text (bytes_field number bytes))
held_long number bytes =
    omega (
      arith,
      length-append (varint_text (8 * number + 2)) (varint_text (length bytes) ++ bytes),
      length-append (varint_text (length bytes)) bytes,
    )

kept_long : (f : Field) (n : ℕ) (b : Bool) → (b ≡ true → n ≡ 0) → n ≤ length (field_text f) → n ≤ length (fields_text (cond (not b) (f ∷ []) []))
kept_long f n true none few = omega (arith, none refl)
kept_long f n false none few = omega (arith, text_long f [], few)

-- bytes are no longer than the field that is written of them, where it is
pub present_long : (number : ℕ) (bytes : List ℕ) → length bytes ≤ length (fields_text (present (bytes_field number bytes ∷ [])))
present_long number bytes =
    kept_long (bytes_field number bytes) (length bytes) (length bytes == 0) (eqb-true (length bytes) 0) (held_long number bytes)

pub both_long : (xs ys : List Field) → length (fields_text (xs ++ ys)) ≡ length (fields_text xs) + length (fields_text ys)
both_long xs ys = ap length (flat_map-append field_text xs ys) ∙ length-append (fields_text xs) (fields_text ys)

pub all_long : (number limit : ℕ) (texts : List (List ℕ)) → length (fields_text (map (bytes_field number) texts)) ≤ limit
    → AllByRecursion (λ text. length text ≤ limit) texts
all_long number limit [] few = tt
all_long number limit (text ∷ texts) few =
    let whole = text_long (bytes_field number text) (map (bytes_field number) texts) in (
      omega (arith, whole, held_long number text, few),
      all_long number limit texts (omega (arith, whole, few)),
    )

-- ---- numbers

pub fits : (n : ℕ) → n < 2 ^ 63 → FitsSigned w64 (pos n)
fits n small = search rules

nulls_first : (cell : Cell) (cells : List Cell) → nulls_of (cell ∷ cells) ≡ (if is_null cell then 1 else 0) + nulls_of cells
nulls_first cell cells = sum_by-cons (λ x. if is_null x then 1 else 0) cell cells

one_more : (b : Bool) (all rest count : ℕ) → all ≡ (if b then 1 else 0) + rest → rest ≤ count → all ≤ suc count
one_more true all rest count is few = omega (arith, is, few)
one_more false all rest count is few = omega (arith, is, few)

nulls_few : (cells : List Cell) → nulls_of cells ≤ length cells
nulls_few [] = omega arith
nulls_few (cell ∷ cells) = one_more (is_null cell) (nulls_of (cell ∷ cells)) (nulls_of cells) (length cells) (nulls_first cell cells) (nulls_few cells)

-- ---- the nodes of a batch

-- so many values, no more of them null
record Counts (node : Node) : Type 0 where
  values : ℕ
  nulls : ℕ
  is : node ≡ (pos values, pos nulls)
  few : nulls ≤ values

abbrev AreCounts : List Node → Type 0
AreCounts nodes = AllByRecursion Counts nodes

both_count : (xs ys : List Node) → AreCounts xs → AreCounts ys → AreCounts (xs ++ ys)
both_count [] ys front back = back
both_count (x ∷ xs) ys front back = (front.0, both_count xs ys front.1 back)

inside_count : (layout : Layout) (elements : ℕ → Parts) (fields : Parts) → ((n : ℕ) → AreCounts (elements n).nodes) → AreCounts fields.nodes
    → AreCounts (parts_inside layout elements fields).nodes
inside_count null_layout elements fields all each = tt
inside_count bits_layout elements fields all each = tt
inside_count (bytes_layout size) elements fields all each = tt
inside_count (binary_layout offset) elements fields all each = tt
inside_count (utf8_layout offset) elements fields all each = tt
inside_count (list_layout offset) elements fields all each = all 0
inside_count (fixed_size_list_layout size) elements fields all each = all size
inside_count struct_layout elements fields all each = each

own_count : (cells : List Cell) → Counts (pos (length cells), pos (nulls_of cells))
own_count cells = record { values = length cells; nulls = nulls_of cells; is = refl; few = nulls_few cells }

mutual
  count_of_shape : (s : Shape) (cells : List Cell) → AreCounts (parts_of s cells).nodes
  count_of_shape (shape layout inside) cells =
      (own_count cells, inside_count layout (elements_parts inside cells) (fields_parts inside 0 cells) (count_of_elements inside cells) (count_of_fields inside 0 cells))

  count_of_elements : (s : Shapes) (cells : List Cell) (blanks : ℕ) → AreCounts (elements_parts s cells blanks).nodes
  count_of_elements no_shape cells blanks = tt
  count_of_elements (shape_then s rest) cells blanks = count_of_shape s (flat_map (elements_or (replicate blanks (blank_of s))) cells)

  count_of_fields : (s : Shapes) (k : ℕ) (cells : List Cell) → AreCounts (fields_parts s k cells).nodes
  count_of_fields no_shape k cells = tt
  count_of_fields (shape_then s rest) k cells =
      both_count (parts_of s (map (field_or (blank_of s) k) cells)).nodes (fields_parts rest (suc k) cells).nodes
      (count_of_shape s (map (field_or (blank_of s) k) cells)) (count_of_fields rest (suc k) cells)

count_of_columns : (s : Shapes) (columns : List (List Cell)) → AreCounts (columns_parts s columns).nodes
count_of_columns no_shape columns = tt
count_of_columns (shape_then s rest) [] = tt
count_of_columns (shape_then s rest) (cells ∷ columns) =
    both_count (parts_of s cells).nodes (columns_parts rest columns).nodes (count_of_shape s cells) (count_of_columns rest columns)

node_fits : (node : Node) → Counts node → node.0 ≤ℤ pos values_limit → FitsPair node
node_fits node counts few =
    let within : pos counts.values ≤ℤ pos values_limit = subst (λ z. z ≤ℤ pos values_limit) (ap (λ n. n.0) counts.is) few in
    subst FitsPair (sym counts.is) (
      fits counts.values (omega (arith, ints, within)),
      fits counts.nulls (omega (arith, ints, within, counts.few)),
    )

nodes_fit : (nodes : List Node) → AreCounts nodes → AllByRecursion (λ node. node.0 ≤ℤ pos values_limit) nodes → AllByRecursion FitsPair nodes
nodes_fit [] counts few = tt
nodes_fit (node ∷ nodes) counts few = (node_fits node counts.0 few.0, nodes_fit nodes counts.1 few.1)

pub batch_nodes_fit : (s : Shapes) (columns : List (List Cell)) → AllByRecursion (λ node. node.0 ≤ℤ pos values_limit) (columns_parts s columns).nodes
    → AllByRecursion FitsPair (columns_parts s columns).nodes
batch_nodes_fit s columns few = nodes_fit (columns_parts s columns).nodes (count_of_columns s columns) few

-- ---- its buffers

pub ranges_fit : (place : ℕ) (buffers : List (List ℕ)) → place + length (body_with buffers) < 2 ^ 63 → AllByRecursion FitsPair (ranges_from place buffers)
ranges_fit place [] small = tt
ranges_fit place (buffer ∷ buffers) small =
    let zeros : List ℕ = replicate (padded (length buffer) - length buffer) 0 in
    let whole : length (body_with (buffer ∷ buffers)) ≡ length (buffer ++ replicate (padded (length buffer) - length buffer) 0) + length (body_with buffers) =
    length-append (buffer ++ replicate (padded (length buffer) - length buffer) 0) (body_with buffers) in
    let own : length (buffer ++ replicate (padded (length buffer) - length buffer) 0) ≡ length buffer + (padded (length buffer) - length buffer) =
    length-append buffer (replicate (padded (length buffer) - length buffer) 0) ∙ ap (λ n. length buffer + n) (length-replicate (padded (length buffer) - length buffer) 0) in (
      (fits place (omega (arith, small)), fits (length buffer) (omega (arith, small, whole, own))),
      ranges_fit (place + padded (length buffer)) buffers (omega (arith, small, whole, own)),
    )

-- ---- how many there are

few_buffers : (layout : Layout) → buffers_in_layout layout ≤ 3
few_buffers null_layout = omega arith
few_buffers bits_layout = omega arith
few_buffers (bytes_layout size) = omega arith
few_buffers (binary_layout offset) = omega arith
few_buffers (utf8_layout offset) = omega arith
few_buffers (list_layout offset) = omega arith
few_buffers (fixed_size_list_layout size) = omega arith
few_buffers struct_layout = omega arith

mutual
  few_in_tree : (t : Tree) → tree_sum (λ field entries. buffers_in_layout (layout_of field.data_type)) t ≤ 3 * tree_sum (λ field entries. 1) t
  few_in_tree (tree field entries inner) = omega (arith, few_buffers (layout_of field.data_type), few_in_forest inner)

  few_in_forest : (f : Forest) → forest_sum (λ field entries. buffers_in_layout (layout_of field.data_type)) f ≤ 3 * forest_sum (λ field entries. 1) f
  few_in_forest no_more = omega arith
  few_in_forest (more t rest) = omega (arith, few_in_tree t, few_in_forest rest)

pub few_for_fields : (f : Forest) → buffer_count f ≤ 3 * node_count f
few_for_fields f = few_in_forest f
