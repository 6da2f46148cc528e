-- A walk over fields that checks their columns, step by step.
use Rattle.std.proofs.Common.{◌≡◌, inl, inr, refl, sym, ap, ap₂, ◌∙◌, subst, ℕ, zero, suc, ◌+◌, ◌<◌, ◌≤◌, pos, nat_abs, List, [], ◌∷◌, ◌++◌, map, length, get_or, take, drop, slice_index_or, arith}
use Rattle.std.specs.List.{range_with_len, filter, flat_map}
use Rattle.header_types.specs.declared.schema.Field.{Field, out-Field}
use Rattle.header_types.specs.declared.header.BatchHead.{BatchHead}
use Rattle.header_types.specs.Fields.{tree, Forest, no_more, more}
use Rattle.header_types.specs.FieldView.{field_head_of, entries_in, fields_in}
use Rattle.header_types.specs.Limits.{forest_depth}
use Rattle.header_types.proofs.FieldTrees.{forest_next}
use Rattle.batch_types.specs.declared.fault.BatchFault.{BatchFault}
use Rattle.batch_types.specs.Layouts.{Layout, layout_of, buffers_in_layout, null_layout, bits_layout, bytes_layout, binary_layout, utf8_layout}
use Rattle.batch_types.specs.Layouts.{list_layout, fixed_size_list_layout, struct_layout}
use Rattle.batch_types.specs.Laid.{Node, Range, LaidColumns}
use Rattle.batch_types.specs.Placed.{bytes_at, buffer_at, is_valid}
use Rattle.batch_types.specs.Rules.{places_of, places_inside, asked_inside}
use Rattle.batch_types.specs.LaysOut.{IsSound, AreSound, HaveFault}
use Rattle.batch_columns.specs.Buffers.{offsets_among}
use Rattle.batch_columns.specs.Held.{layout_named}
use Rattle.batch_columns.specs.declared.place.Place.{Place}
use Rattle.batch_columns.specs.declared.encoded_column.EncodedColumn.{EncodedColumn}
use Rattle.batch_columns.specs.Sources.{nodes_of_tree, buffers_of_tree, columns_from}
use Rattle.batch_columns.specs.Read.{IsSourceOf, column_at, offsets_at}
use Rattle.batch_checking.specs.declared.around.Around.{Around}
use Rattle.batch_checking.specs.Around.{source_places, places_around, AreSteady}
use Rattle.batch_checking.specs.Checked.{KeepsOwn, BreaksOwn, InsideIsSound}
use Rattle.batch_checking.specs.Columns.{sources_around, first_places, places_in, forest_seen, columns_at, inside_of, AllReach, MayCheck, MayCheckOne, IsBehind, IsOpen, tree_seen}
use Rattle.batch_checking.specs.Walk.{Came}
use Rattle.batch_checking.proofs.Walking.{around_more, steady_more}
use Rattle.batch_checking.proofs.Placing.{drop_both, drop_nothing}
use Rattle.batch_checking.proofs.Going.{reach_inside}

-- ---- the places inside a column are the same by its offsets and by its buffer 1

places_among : (l : Layout) (buffers : List (List ℕ)) (j : ℕ) → places_of l (offsets_among l buffers) j ≡ places_of l (get_or buffers 1 []) j
places_among null_layout buffers j = refl
places_among bits_layout buffers j = refl
places_among (bytes_layout size) buffers j = refl
places_among (binary_layout offset) buffers j = refl
places_among (utf8_layout offset) buffers j = refl
places_among (list_layout offset) buffers j = refl
places_among (fixed_size_list_layout size) buffers j = refl
places_among struct_layout buffers j = refl

all_places : (f g : ℕ → List ℕ) → ((j : ℕ) → f j ≡ g j) → (js : List ℕ) → flat_map f js ≡ flat_map g js
all_places f g same [] = refl
all_places f g same (j ∷ js) = ap₂ (λ xs ys. xs ++ ys) (same j) (all_places f g same js)

-- ---- on from a column

module _ (body : List ℕ) (head : BatchHead) (asked : ℕ) (around : Around) where
  pub one_may : (x : Field) (rest : Forest) (place : Place) → MayCheck (more (tree_seen x) rest) head place asked around → MayCheckOne x head place asked around
  one_may x rest place may = record {
    counted = may.counted;
    nodes = omega (arith, may.nodes);
    buffers = omega (arith, may.buffers);
    formed = (may.formed.0, tt);
    shallow = omega (arith, may.shallow);
    room = may.room;
    steady = may.steady;
    reach = (may.reach.0, tt);
  }

  -- ---- the columns inside a column

  module _ (x : Field) (place inside : Place) (s : EncodedColumn) (next : Around) (n : ℕ) (of : IsSourceOf body (column_at x head place) s)
      (node : inside.node ≡ place.node + 1) (buffer : inside.buffer ≡ place.buffer + buffers_in_layout (layout_named s.layout))
      (rows : next.rows ≡ around.rows) (depth : next.depth ≡ around.depth + 1) (room : length next.levels ≡ 16) (sources : sources_around next ≡ sources_around around ++ s ∷ [])
      (few : n ≡ asked_inside (layout_named s.layout) s.length) where
    firsts : first_places next ≡ first_places around
    firsts = ap (range_with_len 0) rows

    places_next : places_in next ≡ source_places s (places_in around)
    places_next = ap₂ places_around firsts sources ∙ around_more (first_places around) (sources_around around) s

    pub buffer_is : inside.buffer ≡ place.buffer + buffers_in_layout (layout_of (field_head_of x).data_type)
    buffer_is = buffer ∙ ap (λ l. place.buffer + buffers_in_layout l) of.layout_is

    columns_inside : columns_at (fields_in x) head inside ≡ inside_of (column_at x head place)
    columns_inside =
        ap₂ (columns_from (fields_in x))
        (ap (λ k. drop k head.nodes.items) node ∙ sym (drop_both 1 place.node head.nodes.items))
        (ap (λ k. drop k head.buffers.items) buffer_is
        ∙ sym (drop_both (buffers_in_layout (layout_of (field_head_of x).data_type)) place.buffer head.buffers.items))

    pub inside_may : MayCheckOne x head place asked around → IsOpen s (column_at x head place) (places_in around) → MayCheck (fields_in x) head inside n next
    inside_may may open_ = record {
      counted = may.counted;
      nodes = omega (arith, may.nodes, node);
      buffers = omega (arith, may.buffers, buffer_is);
      formed = may.formed.0.2;
      shallow = omega (arith, may.shallow, depth);
      room = room;
      steady =
          subst (λ (ps : List ℕ). AreSteady ps (sources_around next)) (sym firsts)
          (subst (AreSteady (first_places around)) (sym sources) (steady_more (first_places around) (sources_around around) s may.steady open_.below open_.steady));
      reach =
          subst (λ (cs : LaidColumns). AllReach n cs (places_in next)) (sym columns_inside)
          (subst (AllReach n (inside_of (column_at x head place))) (sym places_next)
          (subst (λ k. AllReach k (inside_of (column_at x head place)) (source_places s (places_in around))) (sym few)
          (reach_inside s.validity.now s.offsets.now s.length (places_in around) open_.below s.layout (field_head_of x).data_type (fields_in x)
          (drop 1 (drop place.node head.nodes.items))
          (drop (buffers_in_layout (layout_of (field_head_of x).data_type)) (drop place.buffer head.buffers.items)) of.layout_is may.formed.0.0 open_.leads)));
    }

    abbrev layout_here : Layout
    layout_here = layout_of (field_head_of x).data_type

    abbrev ranges_here : List Range
    ranges_here = take (buffers_in_layout (layout_of (field_head_of x).data_type)) (drop place.buffer head.buffers.items)

    abbrev source_places_of : Layout → List ℕ → List ℕ → List ℕ
    source_places_of l v t = flat_map (places_of l t) (filter (is_valid l v) (places_in around))

    places_same : source_places s (places_in around) ≡ places_inside body layout_here ranges_here (places_in around)
    places_same =
        ap (λ l. source_places_of l s.validity.now s.offsets.now) of.layout_is
        ∙ ap₂ (source_places_of layout_here) of.validity_is of.offsets_is
        ∙ all_places (places_of layout_here (offsets_at body layout_here ranges_here)) (places_of layout_here (buffer_at body ranges_here 1))
        (places_among layout_here (map (bytes_at body) ranges_here)) (filter (is_valid layout_here (buffer_at body ranges_here 0)) (places_in around))

    asked_same : n ≡ asked_inside layout_here (nat_abs (get_or (drop place.node head.nodes.items) 0 (pos 0, pos 0)).0)
    asked_same = few ∙ ap₂ asked_inside of.layout_is (sym (ap (λ (m : Node). nat_abs m.0) of.node_is))

    module _ (P : LaidColumns → ℕ → List ℕ → Type 0) where
      pub moved_inside : P (columns_at (fields_in x) head inside) n (places_in next)
          → P (inside_of (column_at x head place)) (asked_inside layout_here (nat_abs (get_or (drop place.node head.nodes.items) 0 (pos 0, pos 0)).0))
          (places_inside body layout_here ranges_here (places_in around))
      moved_inside h =
          subst (λ (cs : LaidColumns). P cs (asked_inside layout_here (nat_abs (get_or (drop place.node head.nodes.items) 0 (pos 0, pos 0)).0))
          (places_inside body layout_here ranges_here (places_in around))) columns_inside
          (subst (λ k. P (columns_at (fields_in x) head inside) k (places_inside body layout_here ranges_here (places_in around))) asked_same
          (subst (P (columns_at (fields_in x) head inside) n) (places_next ∙ places_same) h))

  -- ---- the walk

  module _ (fields : Forest) (first : Place) where
    abbrev CameTo : Forest → Place → Type 0
    CameTo rest place = Came body head asked around fields first rest place

    pub own_fault : (x : Field) (rest : Forest) (place : Place) (told : BatchFault) → CameTo (more (tree_seen x) rest) place
        → BreaksOwn body (column_at x head place) asked (places_in around) told → HaveFault body (columns_at fields head first) asked (places_in around) told
    own_fault x rest place told came breaks = came.fault told (inl (inl breaks))

    pub inside_fault : (x : Field) (rest : Forest) (place : Place) (told : BatchFault) → CameTo (more (tree_seen x) rest) place
        → KeepsOwn body (column_at x head place) asked (places_in around)
        → HaveFault body (inside_of (column_at x head place))
        (asked_inside (layout_of (field_head_of x).data_type) (nat_abs (get_or (drop place.node head.nodes.items) 0 (pos 0, pos 0)).0))
        (places_inside body (layout_of (field_head_of x).data_type)
        (take (buffers_in_layout (layout_of (field_head_of x).data_type)) (drop place.buffer head.buffers.items)) (places_in around)) told
        → HaveFault body (columns_at fields head first) asked (places_in around) told
    inside_fault x rest place told came kept has = came.fault told (inl (inr (kept, has)))

    pub went_on : (x : Field) (rest : Forest) (place after : Place) → CameTo (more (tree_seen x) rest) place
        → IsSound body (column_at x head place) asked (places_in around) → after.node ≡ place.node + nodes_of_tree (tree_seen x)
        → after.buffer ≡ place.buffer + buffers_of_tree (tree_seen x) → CameTo rest after
    went_on x rest place after came sound node buffer = record {
      may = record {
        counted = came.may.counted;
        nodes = omega (arith, came.may.nodes, node);
        buffers = omega (arith, came.may.buffers, buffer);
        formed = came.may.formed.1;
        shallow = omega (arith, came.may.shallow);
        room = came.may.room;
        steady = came.may.steady;
        reach = subst (λ (cs : LaidColumns). AllReach asked cs (places_in around)) columns_rest came.may.reach.1;
      };
      nodes = omega (arith, came.nodes, node);
      buffers = omega (arith, came.buffers, buffer);
      sound = λ h. came.sound (sound, subst (λ (cs : LaidColumns). AreSound body cs asked (places_in around)) (sym columns_rest) h);
      fault = λ told h. came.fault told (inr (sound, subst (λ (cs : LaidColumns). HaveFault body cs asked (places_in around) told) (sym columns_rest) h));
    }
      where
        columns_rest : columns_from rest (drop (nodes_of_tree (tree_seen x)) (drop place.node head.nodes.items))
            (drop (buffers_of_tree (tree_seen x)) (drop place.buffer head.buffers.items)) ≡ columns_at rest head after
        columns_rest =
            ap₂ (columns_from rest) (drop_both (nodes_of_tree (tree_seen x)) place.node head.nodes.items ∙ ap (λ k. drop k head.nodes.items) (sym node))
            (drop_both (buffers_of_tree (tree_seen x)) place.buffer head.buffers.items ∙ ap (λ k. drop k head.buffers.items) (sym buffer))

    pub came_end : (rest : Forest) (place : Place) → CameTo rest place → rest ≡ no_more
        → AreSound body (columns_at fields head first) asked (places_in around) × IsBehind fields first place
    came_end rest place came none =
        let last : CameTo no_more place = subst (λ r. CameTo r place) none came in
        (last.sound tt, (omega (arith, last.nodes), omega (arith, last.buffers)))

  pub came_start : (fields : List Field) (first : Place) → MayCheck (forest_seen fields) head first asked around
      → Came body head asked around (forest_seen fields) first (forest_seen (drop 0 fields)) first
  came_start fields first may =
      subst (λ (l : List Field). Came body head asked around (forest_seen fields) first (forest_seen l) first) (sym (drop_nothing fields))
      (record { may = may; nodes = refl; buffers = refl; sound = λ h. h; fault = λ told h. h })

pub drop_end : (fields : List Field) (i : ℕ) → length fields ≤ i → forest_seen (drop i fields) ≡ no_more
drop_end [] zero all = refl
drop_end [] (suc i) all = refl
drop_end (x ∷ xs) zero all = absurd (omega arith)
drop_end (x ∷ xs) (suc i) all = drop_end xs i (omega arith)

pub came_next : (body : List ℕ) (head : BatchHead) (asked : ℕ) (around : Around) (fields : List Field) (first place : Place) (i : ℕ) (x : Field)
    → i < length fields → x ≡ slice_index_or fields i x → Came body head asked around (forest_seen fields) first (forest_seen (drop i fields)) place
    → Came body head asked around (forest_seen fields) first (more (tree_seen x) (forest_seen (drop (i + 1) fields))) place
came_next body head asked around fields first place i x there is came =
    subst (λ r. Came body head asked around (forest_seen fields) first r place) (forest_next fields i x there is) came

-- ---- what is inside a field is less deep

depth_left : (fields : List Field) (i : ℕ) → forest_depth (forest_seen (drop i fields)) ≤ forest_depth (forest_seen fields)
depth_left [] zero = omega arith
depth_left [] (suc i) = omega arith
depth_left (x ∷ xs) zero = omega arith
depth_left (x ∷ xs) (suc i) = omega (arith, depth_left xs i)

pub depth_falls : (fields : List Field) (i : ℕ) (x : Field) → i < length fields → x ≡ slice_index_or fields i x
    → forest_depth (fields_in x) < forest_depth (forest_seen fields)
depth_falls fields i x there is = omega (arith, depth_left fields i, ap forest_depth (forest_next fields i x there is))

-- ---- a column with none inside it

pub none_inside : (x : Field) → (out-Field x).children.items ≡ [] → fields_in x ≡ no_more
none_inside x none = ap forest_seen none

module _ (body : List ℕ) (head : BatchHead) (around : Around) (x : Field) (place : Place) (none : fields_in x ≡ no_more) where
  pub bare_nodes : nodes_of_tree (tree_seen x) ≡ 1
  bare_nodes = ap (λ (f : Forest). nodes_of_tree (tree (field_head_of x) (entries_in x) f)) none

  pub bare_buffers : buffers_of_tree (tree_seen x) ≡ buffers_in_layout (layout_of (field_head_of x).data_type)
  bare_buffers = ap (λ (f : Forest). buffers_of_tree (tree (field_head_of x) (entries_in x) f)) none ∙ omega arith

  pub bare_is_sound : InsideIsSound body (column_at x head place) (places_in around)
  bare_is_sound =
      subst (λ (f : Forest). AreSound body (columns_from f (drop 1 (drop place.node head.nodes.items))
      (drop (buffers_in_layout (layout_of (field_head_of x).data_type)) (drop place.buffer head.buffers.items)))
      (asked_inside (layout_of (field_head_of x).data_type) (nat_abs (get_or (drop place.node head.nodes.items) 0 (pos 0, pos 0)).0))
      (places_inside body (layout_of (field_head_of x).data_type)
      (take (buffers_in_layout (layout_of (field_head_of x).data_type)) (drop place.buffer head.buffers.items)) (places_in around))) (sym none) tt
