-- How many bytes the columns of some fields have, by what was counted of them.
use Rattle.std.proofs.Common.{◌≡◌, sym, ap, ap₂, subst, ◌∙◌, ℕ, ◌+◌, ◌-◌, ◌*◌, ◌^◌, ◌<◌, ◌≤◌, min, false, pos, List, map, length, get_or, take, drop, arith}
use Rattle.std.proofs.lemmas.List.{drop-drop}
use Rattle.header_types.specs.declared.schema.Field.{Field}
use Rattle.header_types.specs.declared.header.BatchHead.{BatchHead}
use Rattle.header_types.specs.Fields.{FieldHead, Entry, tree, Forest, more}
use Rattle.header_types.specs.FieldView.{field_head_of, entries_in, fields_in}
use Rattle.header_types.proofs.FieldTrees.{forest_next}
use Rattle.batch_types.specs.Layouts.{Layout, layout_of, buffers_in_layout}
use Rattle.batch_types.specs.Laid.{Node, Range, laid}
use Rattle.batch_types.specs.LaysOut.{values_limit}
use Rattle.batch_types.specs.Placed.{buffer_at}
use Rattle.batch_types.specs.Shapes.{shape, shape_of, shapes_of}
use Rattle.batch_types.specs.Canonical.{body_with, parts_of, columns_parts}
use Rattle.batch_columns.specs.Held.{layout_named}
use Rattle.batch_columns.specs.Read.{offsets_at}
use Rattle.batch_columns.specs.declared.layout.Layout.{Layout as Declared}
use Rattle.batch_columns.specs.declared.place.Place.{Place}
use Rattle.batch_columns.specs.Sources.{nodes_of_tree, buffers_of_tree, column_from, columns_from}
use Rattle.batch_reading.specs.Built.{cells_wanted, columns_wanted}
use Rattle.batch_reading.specs.Planned.{spots_inside}
use Rattle.batch_reading.specs.Readable.{forest_seen, columns_there}
use Rattle.batch_reading.specs.Spots.{Spot}
use Rattle.batch_reading.specs.Taken.{seen}
use Rattle.batch_lengths.specs.declared.counted.Counted.{Counted}
use Rattle.batch_lengths.specs.Counted.{has_null, span_total}
use Rattle.batch_lengths.specs.Reach.{end_inside}
use Rattle.batch_lengths.specs.Sizes.{own_size, count_inside, columns_size, size_there, MayMeasure, Measured}
use Rattle.batch_lengths.specs.Tally.{counted_of, tally, tally_of, BeginsWith}
use Rattle.batch_lengths.proofs.Between.{between_seen, between_long, between_wider, inside_between, spans_fit}
use Rattle.batch_lengths.proofs.Buffers.{own_sized}
use Rattle.batch_lengths.proofs.Inside.{both_long, column_long, inside_long}
use Rattle.batch_lengths.proofs.Reached.{Facts, between_below, reaches, are_there}
use Rattle.batch_lengths.proofs.Tallying.{begins_first, begins_entry, tally_of_long}
use Rattle.batch_lengths.proofs.Walking.{facts, rest_walk, rest_same, inside_walk, columns_same}

module _ (fh : FieldHead) (entries : List Entry) (inside rest : Forest) (head : BatchHead) (place : Place) (body : List ℕ) (count : ℕ) (table : List Counted)
    (spots : List Spot) (m : MayMeasure (more (tree fh entries inside) rest) head place body count table spots) where
  abbrev nodes : List Node
  nodes = drop place.node head.nodes.items

  abbrev others : List Range
  others = drop place.buffer head.buffers.items

  abbrev node : Node
  node = get_or (drop place.node head.nodes.items) 0 (pos 0, pos 0)

  abbrev ranges : List Range
  ranges = take (buffers_in_layout (layout_of fh.data_type)) (drop place.buffer head.buffers.items)

  abbrev inner_nodes : List Node
  inner_nodes = drop 1 (drop place.node head.nodes.items)

  abbrev inner_others : List Range
  inner_others = drop (buffers_in_layout (layout_of fh.data_type)) (drop place.buffer head.buffers.items)

  abbrev validity : List ℕ
  validity = buffer_at body ranges 0

  -- the offsets of a column of this layout
  abbrev offsets : Layout → List ℕ
  offsets l = offsets_at body l ranges

  abbrev column_tally : List Counted
  column_tally = tally_of body (column_from (tree fh entries inside) nodes others) spots

  abbrev rest_tally : List Counted
  rest_tally = tally body (columns_from rest (drop (nodes_of_tree (tree fh entries inside)) nodes) (drop (buffers_of_tree (tree fh entries inside)) others)) spots

  parts : BeginsWith (drop place.node table) column_tally × BeginsWith (drop (length column_tally) (drop place.node table)) rest_tally
  parts = begins_first (drop place.node table) column_tally rest_tally m.tallied

  pub few_cells : count ≤ values_limit
  few_cells = omega (arith, m.wanted, between_long 0 m.limit spots m.between, m.walk.few_values)

  pub entry_there : place.node < length table
  entry_there = (begins_entry table place.node (record { has_null = false; total = 0 }) (counted_of (layout_of fh.data_type) validity (offsets (layout_of fh.data_type)) spots)
      (tally body (columns_from inside inner_nodes inner_others) (spots_inside (layout_of fh.data_type) (offsets (layout_of fh.data_type)) (map (seen validity) spots))) parts.0).0

  module _ (layout : Declared) (named : layout_named layout ≡ layout_of fh.data_type) (d : Counted) where
    abbrev entry : Counted
    entry = get_or table place.node d

    here : Facts body node ranges inside inner_nodes inner_others m.limit m.walk.places layout
    here = facts fh entries inside rest head place body m.limit m.walk layout named

    entry_parts : (place.node < length table) × (entry.has_null ≡ has_null validity spots)
        × (entry.total ≡ min (span_total (layout_of fh.data_type) (offsets (layout_of fh.data_type)) (map (seen validity) spots)) (2 ^ 64 - 1))
        × BeginsWith (drop (place.node + 1) table) (tally body (columns_from inside inner_nodes inner_others) (spots_inside (layout_of fh.data_type) (offsets (layout_of fh.data_type)) (map (seen validity) spots)))
    entry_parts =
        begins_entry table place.node d (counted_of (layout_of fh.data_type) validity (offsets (layout_of fh.data_type)) spots)
        (tally body (columns_from inside inner_nodes inner_others) (spots_inside (layout_of fh.data_type) (offsets (layout_of fh.data_type)) (map (seen validity) spots))) parts.0

    total_is : entry.total ≡ span_total (layout_named layout) (offsets (layout_named layout)) (map (seen validity) spots)
    total_is =
        let fits : span_total (layout_named layout) (offsets (layout_named layout)) (map (seen validity) spots) < 2 ^ 64 =
        spans_fit (layout_named layout) (offsets (layout_named layout)) 0 m.limit (map (seen validity) spots)
        (reaches body node ranges inside inner_nodes inner_others m.limit m.walk.places layout here) (between_seen validity 0 m.limit spots m.between) in
        entry_parts.2 ∙ ap (λ l. min (span_total l (offsets l) (map (seen validity) spots)) (2 ^ 64 - 1)) (sym named) ∙ least (span_total (layout_named layout) (offsets (layout_named layout)) (map (seen validity) spots)) fits
      where
        least : (n : ℕ) → n < 2 ^ 64 → min n (2 ^ 64 - 1) ≡ n
        least n fits = omega (arith, fits)

    -- the column has so many bytes, and those of the columns inside it
    column_own : length (body_with (parts_of (shape_of (tree fh entries inside))
        (cells_wanted body (column_from (tree fh entries inside) nodes others) (shape_of (tree fh entries inside)) spots)).buffers)
        ≡ own_size (layout_named layout) count entry.has_null entry.total
        + columns_size (shapes_of inside) (columns_wanted body (columns_from inside inner_nodes inner_others) (shapes_of inside)
        (spots_inside (layout_named layout) (offsets (layout_named layout)) (map (seen validity) spots)))
    column_own =
        ap (λ l. length (body_with (parts_of (shape l (shapes_of inside))
        (cells_wanted body (laid l node ranges (columns_from inside inner_nodes inner_others)) (shape l (shapes_of inside)) spots)).buffers)) (sym named)
        ∙ column_long body node ranges inner_nodes inner_others spots layout inside here.may
        ∙ ap (λ x. x + columns_size (shapes_of inside) (columns_wanted body (columns_from inside inner_nodes inner_others) (shapes_of inside)
        (spots_inside (layout_named layout) (offsets (layout_named layout)) (map (seen validity) spots))))
        (own_sized body node ranges (columns_from inside inner_nodes inner_others) (shapes_of inside) spots m.limit
        (between_below 0 m.limit spots m.between) layout
        (are_there body node ranges inside inner_nodes inner_others m.limit m.walk.places layout here)
        ∙ ap (λ n. own_size (layout_named layout) n (has_null validity spots) (span_total (layout_named layout) (offsets (layout_named layout)) (map (seen validity) spots))) (sym m.wanted)
        ∙ ap₂ (own_size (layout_named layout) count) (sym entry_parts.1) (sym total_is))

    pub own_within : own_size (layout_named layout) count entry.has_null entry.total ≤ size_there body (more (tree fh entries inside) rest) head place spots
    own_within =
        omega (
          arith,
          both_long
              (parts_of (shape_of (tree fh entries inside)) (cells_wanted body (column_from (tree fh entries inside) nodes others) (shape_of (tree fh entries inside)) spots))
              (columns_parts (shapes_of rest) (columns_wanted body (columns_from rest (drop (nodes_of_tree (tree fh entries inside)) nodes) (drop (buffers_of_tree (tree fh entries inside)) others))
              (shapes_of rest) spots)),
          column_own,
        )

    module _ (cells : ℕ) (cells_are : cells ≡ count_inside (layout_named layout) count entry.total) (within : Place)
        (at_node : within.node ≡ place.node + 1) (at_buffer : within.buffer ≡ place.buffer + buffers_in_layout (layout_named layout)) where
      abbrev spots_within : List Spot
      spots_within = spots_inside (layout_named layout) (offsets (layout_named layout)) (map (seen validity) spots)

      pub inside_may : MayMeasure inside head within body cells table spots_within
      inside_may = record {
        limit = end_inside (layout_named layout) (offsets (layout_named layout)) m.limit;
        walk = inside_walk fh entries inside rest head place body m.limit m.walk layout named within at_node at_buffer;
        between =
            between_wider 0 (end_inside (layout_named layout) (offsets (layout_named layout)) 0) (end_inside (layout_named layout) (offsets (layout_named layout)) m.limit) (end_inside (layout_named layout) (offsets (layout_named layout)) m.limit)
            (omega arith) (omega arith) spots_within
            (inside_between (layout_named layout) (offsets (layout_named layout)) 0 m.limit (map (seen validity) spots)
            (reaches body node ranges inside inner_nodes inner_others m.limit m.walk.places layout here) (between_seen validity 0 m.limit spots m.between));
        wanted =
            cells_are ∙ ap₂ (count_inside (layout_named layout)) m.wanted total_is ∙ sym (inside_long layout (offsets (layout_named layout)) validity spots);
        tallied =
            subst (λ n. BeginsWith (drop n table) (tally body (columns_there inside head within) spots_within)) (sym at_node)
            (subst (λ cs. BeginsWith (drop (place.node + 1) table) (tally body cs spots_within))
            (columns_same fh entries inside rest head place body m.limit m.walk layout named within at_node at_buffer)
            (subst (λ l. BeginsWith (drop (place.node + 1) table) (tally body (columns_from inside inner_nodes inner_others) (spots_inside l (offsets l) (map (seen validity) spots)))) (sym named)
            entry_parts.3));
      }

      pub inside_within : own_size (layout_named layout) count entry.has_null entry.total + size_there body inside head within spots_within
          ≤ size_there body (more (tree fh entries inside) rest) head place spots
      inside_within =
          omega (
            arith,
            both_long
                (parts_of (shape_of (tree fh entries inside)) (cells_wanted body (column_from (tree fh entries inside) nodes others) (shape_of (tree fh entries inside)) spots))
                (columns_parts (shapes_of rest) (columns_wanted body (columns_from rest (drop (nodes_of_tree (tree fh entries inside)) nodes) (drop (buffers_of_tree (tree fh entries inside)) others))
                (shapes_of rest) spots)),
            column_own,
            ap (λ cs. columns_size (shapes_of inside) (columns_wanted body cs (shapes_of inside) spots_within))
                (columns_same fh entries inside rest head place body m.limit m.walk layout named within at_node at_buffer),
          )

      module _ (next : Place) (next_node : next.node ≡ place.node + nodes_of_tree (tree fh entries inside))
          (next_buffer : next.buffer ≡ place.buffer + buffers_of_tree (tree fh entries inside)) (next_few : next.buffer ≤ 3 * next.node) where
        pub next_may : MayMeasure rest head next body count table spots
        next_may = record {
          limit = m.limit;
          walk = rest_walk fh entries inside rest head place body m.limit m.walk next next_node next_buffer next_few;
          between = m.between;
          wanted = m.wanted;
          tallied =
              subst (λ cs. BeginsWith (drop next.node table) (tally body cs spots)) (rest_same fh entries inside rest head place body m.limit m.walk next next_node next_buffer next_few)
              (subst (λ l. BeginsWith l rest_tally)
              (drop-drop (length column_tally) place.node table
              ∙ ap (λ n. drop (place.node + n) table) (tally_of_long body (tree fh entries inside) nodes others spots) ∙ ap (λ n. drop n table) (sym next_node)) parts.1);
        }

        pub size_next : size_there body (more (tree fh entries inside) rest) head place spots
            ≡ own_size (layout_named layout) count entry.has_null entry.total + size_there body inside head within spots_within + size_there body rest head next spots
        size_next =
            both_long
            (parts_of (shape_of (tree fh entries inside)) (cells_wanted body (column_from (tree fh entries inside) nodes others) (shape_of (tree fh entries inside)) spots))
            (columns_parts (shapes_of rest) (columns_wanted body (columns_from rest (drop (nodes_of_tree (tree fh entries inside)) nodes) (drop (buffers_of_tree (tree fh entries inside)) others))
            (shapes_of rest) spots))
            ∙ ap₂ (λ x cs. x + columns_size (shapes_of rest) (columns_wanted body cs (shapes_of rest) spots))
            (column_own ∙ ap (λ cs. own_size (layout_named layout) count entry.has_null entry.total
            + columns_size (shapes_of inside) (columns_wanted body cs (shapes_of inside) spots_within))
            (columns_same fh entries inside rest head place body m.limit m.walk layout named within at_node at_buffer))
            (rest_same fh entries inside rest head place body m.limit m.walk next next_node next_buffer next_few)

-- ---- one field after the other

module _ (fields : List Field) (i : ℕ) (x : Field) (there : i < length fields) (is : x ≡ get_or fields i x) (head : BatchHead) (place next : Place) (body : List ℕ)
    (count : ℕ) (table : List Counted) (spots : List Spot) (most left : ℕ)
    (was : Measured (forest_seen fields) head place body count table spots most (forest_seen (drop i fields)) next left) where
  pub field_may : MayMeasure (more (tree (field_head_of x) (entries_in x) (fields_in x)) (forest_seen (drop (i + 1) fields))) head next body count table spots
  field_may = subst (λ f. MayMeasure f head next body count table spots) (forest_next fields i x there is) was.may

  pub field_few : count ≤ values_limit
  field_few = few_cells (field_head_of x) (entries_in x) (fields_in x) (forest_seen (drop (i + 1) fields)) head next body count table spots field_may

  pub field_there : next.node < length table
  field_there = entry_there (field_head_of x) (entries_in x) (fields_in x) (forest_seen (drop (i + 1) fields)) head next body count table spots field_may

  seen_first : size_there body (forest_seen (drop i fields)) head next spots
      ≡ size_there body (more (tree (field_head_of x) (entries_in x) (fields_in x)) (forest_seen (drop (i + 1) fields))) head next spots
  seen_first = ap (λ f. size_there body f head next spots) (forest_next fields i x there is)

  module _ (layout : Declared) (named : layout_named layout ≡ layout_of (field_head_of x).data_type) (d : Counted) where
    abbrev own_here : ℕ
    own_here = own_size (layout_named layout) count (get_or table next.node d).has_null (get_or table next.node d).total

    -- its own buffers are too many
    pub own_long_here : left < own_here → most < size_there body (forest_seen fields) head place spots
    own_long_here long =
        let within = own_within (field_head_of x) (entries_in x) (fields_in x) (forest_seen (drop (i + 1) fields)) head next body count table spots field_may layout named d in
        omega (arith, was.fits, was.whole, seen_first, long, within)

    module _ (cells : ℕ) (cells_are : cells ≡ count_inside (layout_named layout) count (get_or table next.node d).total) (within : Place)
        (at_node : within.node ≡ next.node + 1) (at_buffer : within.buffer ≡ next.buffer + buffers_in_layout (layout_named layout)) where
      abbrev pub spots_here : List Spot
      spots_here =
          spots_inside (layout_named layout) (offsets_at body (layout_named layout) (take (buffers_in_layout (layout_of (field_head_of x).data_type)) (drop next.buffer head.buffers.items)))
          (map (seen (buffer_at body (take (buffers_in_layout (layout_of (field_head_of x).data_type)) (drop next.buffer head.buffers.items)) 0)) spots)

      pub field_inside : MayMeasure (fields_in x) head within body cells table spots_here
      field_inside =
          inside_may (field_head_of x) (entries_in x) (fields_in x) (forest_seen (drop (i + 1) fields)) head next body count table spots field_may layout named d cells cells_are
          within at_node at_buffer

      -- the columns inside are too many
      pub inside_long_here : (rest : ℕ) → rest + own_here ≡ left → rest < size_there body (fields_in x) head within spots_here
          → most < size_there body (forest_seen fields) head place spots
      inside_long_here rest own_fits long =
          let whole = inside_within (field_head_of x) (entries_in x) (fields_in x) (forest_seen (drop (i + 1) fields)) head next body count table spots field_may layout named d cells cells_are
          within at_node at_buffer in
          omega (arith, was.fits, was.whole, seen_first, own_fits, long, whole)

      module _ (after : Place) (after_node : after.node ≡ next.node + nodes_of_tree (tree (field_head_of x) (entries_in x) (fields_in x)))
          (after_buffer : after.buffer ≡ next.buffer + buffers_of_tree (tree (field_head_of x) (entries_in x) (fields_in x))) (after_few : after.buffer ≤ 3 * after.node) where
        field_size : size_there body (forest_seen (drop i fields)) head next spots
            ≡ own_here + size_there body (fields_in x) head within spots_here + size_there body (forest_seen (drop (i + 1) fields)) head after spots
        field_size =
            seen_first
            ∙ size_next (field_head_of x) (entries_in x) (fields_in x) (forest_seen (drop (i + 1) fields)) head next body count table spots field_may layout named d cells cells_are
            within at_node at_buffer after after_node after_buffer after_few

        pub field_next : (rest last : ℕ) → rest + own_here ≡ left → last + size_there body (fields_in x) head within spots_here ≡ rest
            → Measured (forest_seen fields) head place body count table spots most (forest_seen (drop (i + 1) fields)) after last
        field_next rest last own_fits inside_fits = record {
          may =
              next_may (field_head_of x) (entries_in x) (fields_in x) (forest_seen (drop (i + 1) fields)) head next body count table spots field_may layout named d cells cells_are
              within at_node at_buffer after after_node after_buffer after_few;
          done = was.done + own_here + size_there body (fields_in x) head within spots_here;
          fits = omega (arith, was.fits, own_fits, inside_fits);
          whole = sums was.done own_here (size_there body (fields_in x) head within spots_here) (size_there body (forest_seen (drop (i + 1) fields)) head after spots)
              (size_there body (forest_seen (drop i fields)) head next spots) (size_there body (forest_seen fields) head place spots) field_size was.whole;
        }
          where
            sums : (d o n r w t : ℕ) → w ≡ o + n + r → d + w ≡ t → d + o + n + r ≡ t
            sums d o n r w t parts all = omega (arith, parts, all)
