-- From the columns of some fields to those inside the first and to those behind it.
use Rattle.std.proofs.Common.{◌≡◌, sym, ap, ap₂, subst, ◌∙◌, ℕ, zero, suc, ◌+◌, ◌*◌, ◌<◌, ◌≤◌, pos, ◌≤ℤ◌, nat_abs, List, [], ◌∷◌, length, get_or, take, drop, arith}
use Rattle.std.proofs.lemmas.Int.{ints}
use Rattle.std.proofs.lemmas.List.{drop-drop, get_or-drop}
use Rattle.header_types.specs.declared.schema.Field.{Field}
use Rattle.header_types.specs.declared.header.BatchHead.{BatchHead}
use Rattle.header_types.specs.Fields.{FieldHead, Entry, tree, Forest, no_more, more, width}
use Rattle.header_types.specs.FieldView.{fields_in}
use Rattle.header_types.proofs.FieldTrees.{forest_next}
use Rattle.batch_types.specs.Layouts.{Layout, layout_of, buffers_in_layout, null_layout, bits_layout, bytes_layout, binary_layout, utf8_layout}
use Rattle.batch_types.specs.Layouts.{list_layout, fixed_size_list_layout, struct_layout}
use Rattle.batch_types.specs.Laid.{Node, Range, node_count}
use Rattle.batch_types.specs.LaysOut.{KeepsRule, AreSound, values_limit}
use Rattle.batch_types.specs.Order.{AreKept, column_order}
use Rattle.batch_types.specs.Rules.{asked_inside, places_inside, first_length}
use Rattle.batch_columns.specs.Held.{layout_named}
use Rattle.batch_columns.specs.Read.{offsets_at, IsSource}
use Rattle.batch_columns.specs.declared.layout.Layout.{Layout as Declared}
use Rattle.batch_columns.specs.declared.place.Place.{Place}
use Rattle.batch_columns.specs.declared.encoded_column.EncodedColumn.{EncodedColumn}
use Rattle.batch_columns.specs.Sources.{nodes_of_tree, buffers_of_tree, columns_from}
use Rattle.batch_reading.specs.Readable.{forest_seen, columns_there}
use Rattle.batch_reading.proofs.Fitting.{MayHave, may_have}
use Rattle.batch_lengths.specs.Reach.{Reaches, ReadsTo, end_inside}
use Rattle.batch_lengths.specs.Sizes.{MayWalk}
use Rattle.batch_lengths.proofs.Reached.{Facts, reaches, end_few, inside_sound, sound_less}

-- ---- fields inside a field are fewer

pub falls_fields : (fields : List Field) (i : ℕ) (x : Field) → i < length fields → x ≡ get_or fields i x → node_count (fields_in x) < node_count (forest_seen fields)
falls_fields [] i x there is = absurd (omega (arith, there))
falls_fields (field ∷ fields) zero x there is = omega (arith, ap node_count (forest_next (field ∷ fields) 0 x there is))
falls_fields (field ∷ fields) (suc i) x there is = omega (arith, falls_fields fields i x (omega (arith, there)) is)

-- ---- fewer values

pub walk_less : (fields : Forest) (head : BatchHead) (place : Place) (body : List ℕ) (end less : ℕ) → less ≤ end → MayWalk fields head place body end
    → MayWalk fields head place body less
walk_less fields head place body end less few m = record {
  places = m.places;
  few_values = omega (arith, few, m.few_values);
  short = m.short;
  sound = sound_less body (columns_there fields head place) end less m.places few m.sound;
  formed = m.formed;
  nodes_there = m.nodes_there;
  buffers_there = m.buffers_there;
  nodes_few = m.nodes_few;
  buffers_few = m.buffers_few;
  counted = m.counted;
  few = m.few;
}

-- ---- nodes

first_within : (inside : Forest) (nodes : List Node) (start : ℕ) (others : List Range) → start + node_count inside ≤ length nodes
    → ((k : ℕ) → k < length nodes → pos 0 ≤ℤ (get_or nodes k (pos 0, pos 0)).0) → ((k : ℕ) → k < length nodes → (get_or nodes k (pos 0, pos 0)).0 ≤ℤ pos values_limit)
    → first_length (columns_from inside (drop start nodes) others) ≤ values_limit
first_within no_more nodes start others there counted few = omega arith
first_within (more (tree field entries inner) rest) nodes start others there counted few =
    let below : start + 0 < length nodes = omega (arith, there) in
    subst (λ (node : Node). nat_abs node.0 ≤ values_limit) (sym (get_or-drop start nodes 0 (pos 0, pos 0)))
    (omega (arith, ints, counted (start + 0) below, few (start + 0) below))

pub three_buffers : (layout : Layout) → buffers_in_layout layout ≤ 3
three_buffers null_layout = omega arith
three_buffers bits_layout = omega arith
three_buffers (bytes_layout size) = omega arith
three_buffers (binary_layout offset) = omega arith
three_buffers (utf8_layout offset) = omega arith
three_buffers (list_layout offset) = omega arith
three_buffers (fixed_size_list_layout size) = omega arith
three_buffers struct_layout = omega arith

-- ---- one field

module _ (fh : FieldHead) (entries : List Entry) (inside rest : Forest) (head : BatchHead) (place : Place) (body : List ℕ) (end : ℕ)
    (m : MayWalk (more (tree fh entries inside) rest) head place body end) where
  abbrev nodes : List Node
  nodes = drop place.node head.nodes.items

  abbrev others : List Range
  others = drop place.buffer head.buffers.items

  abbrev node : Node
  node = get_or (drop place.node head.nodes.items) 0 (pos 0, pos 0)

  abbrev ranges : List Range
  ranges = take (buffers_in_layout (layout_of fh.data_type)) (drop place.buffer head.buffers.items)

  abbrev inner_nodes : List Node
  inner_nodes = drop 1 (drop place.node head.nodes.items)

  abbrev inner_others : List Range
  inner_others = drop (buffers_in_layout (layout_of fh.data_type)) (drop place.buffer head.buffers.items)

  first_is_few : first_length (columns_from inside inner_nodes inner_others) ≤ values_limit
  first_is_few =
      subst (λ l. first_length (columns_from inside l inner_others) ≤ values_limit) (sym (drop-drop 1 place.node head.nodes.items))
      (first_within inside head.nodes.items (place.node + 1) inner_others (omega (arith, m.nodes_there)) m.counted m.few)

  pub facts : (layout : Declared) → layout_named layout ≡ layout_of fh.data_type → Facts body node ranges inside inner_nodes inner_others end m.places layout
  facts layout named = record {
    kept =
        subst (λ l. AreKept (KeepsRule body l node ranges (columns_from inside inner_nodes inner_others) end m.places) column_order) (sym named) m.sound.0.0;
    sound =
        subst (λ l. AreSound body (columns_from inside inner_nodes inner_others) (asked_inside l (nat_abs node.0)) (places_inside body l ranges m.places)) (sym named) m.sound.0.1;
    may = subst (λ l. MayHave l (width inside)) (sym named) (may_have fh.data_type (width inside) m.formed.0.0);
    few = m.few_values;
    first_few = first_is_few;
    short = m.short;
  }

  -- the field alone
  pub one_walk : MayWalk (more (tree fh entries inside) no_more) head place body end
  one_walk = record {
    places = m.places;
    few_values = m.few_values;
    short = m.short;
    sound = (m.sound.0, tt);
    formed = (m.formed.0, tt);
    nodes_there = omega (arith, m.nodes_there);
    buffers_there = omega (arith, m.buffers_there);
    nodes_few = omega (arith, m.nodes_few);
    buffers_few = m.buffers_few;
    counted = m.counted;
    few = m.few;
  }

  -- those behind it
  module _ (next : Place) (next_node : next.node ≡ place.node + nodes_of_tree (tree fh entries inside))
      (next_buffer : next.buffer ≡ place.buffer + buffers_of_tree (tree fh entries inside)) (next_few : next.buffer ≤ 3 * next.node) where
    pub rest_same : columns_from rest (drop (nodes_of_tree (tree fh entries inside)) nodes) (drop (buffers_of_tree (tree fh entries inside)) others) ≡ columns_there rest head next
    rest_same =
        ap₂ (columns_from rest)
        (drop-drop (nodes_of_tree (tree fh entries inside)) place.node head.nodes.items ∙ ap (λ n. drop n head.nodes.items) (sym next_node))
        (drop-drop (buffers_of_tree (tree fh entries inside)) place.buffer head.buffers.items ∙ ap (λ n. drop n head.buffers.items) (sym next_buffer))

    pub rest_walk : MayWalk rest head next body end
    rest_walk = record {
      places = m.places;
      few_values = m.few_values;
      short = m.short;
      sound = subst (λ cs. AreSound body cs end m.places) rest_same m.sound.1;
      formed = m.formed.1;
      nodes_there = omega (arith, next_node, m.nodes_there);
      buffers_there = omega (arith, next_buffer, m.buffers_there);
      nodes_few = omega (arith, next_node, m.nodes_few);
      buffers_few = next_few;
      counted = m.counted;
      few = m.few;
    }

  -- those inside it
  module _ (layout : Declared) (named : layout_named layout ≡ layout_of fh.data_type) (within : Place)
      (at_node : within.node ≡ place.node + 1) (at_buffer : within.buffer ≡ place.buffer + buffers_in_layout (layout_named layout)) where
    pub columns_same : columns_from inside inner_nodes inner_others ≡ columns_there inside head within
    columns_same =
        ap₂ (columns_from inside) (drop-drop 1 place.node head.nodes.items ∙ ap (λ n. drop n head.nodes.items) (sym at_node))
        (drop-drop (buffers_in_layout (layout_of fh.data_type)) place.buffer head.buffers.items
        ∙ ap (λ n. drop n head.buffers.items) (sym (at_buffer ∙ ap (λ l. place.buffer + buffers_in_layout l) named)))

    pub inside_walk : MayWalk inside head within body (end_inside (layout_named layout) (offsets_at body (layout_named layout) ranges) end)
    inside_walk = record {
      places = places_inside body (layout_named layout) ranges m.places;
      few_values = end_few body node ranges inside inner_nodes inner_others end m.places layout (facts layout named);
      short = m.short;
      sound =
          subst (λ cs. AreSound body cs (end_inside (layout_named layout) (offsets_at body (layout_named layout) ranges) end) (places_inside body (layout_named layout) ranges m.places)) columns_same
          (inside_sound body node ranges inside inner_nodes inner_others end m.places layout (facts layout named));
      formed = m.formed.0.2;
      nodes_there = omega (arith, at_node, m.nodes_there);
      buffers_there = omega (arith, at_buffer, ap buffers_in_layout named, m.buffers_there);
      nodes_few = omega (arith, at_node, m.nodes_few);
      buffers_few = omega (arith, at_node, at_buffer, three_buffers (layout_named layout), m.buffers_few);
      counted = m.counted;
      few = m.few;
    }

  -- what is read of its column
  module _ (s : EncodedColumn) (of : IsSource body (layout_of fh.data_type) node ranges s) where
    offsets_are : offsets_at body (layout_named s.layout) ranges ≡ s.offsets.now
    offsets_are = ap (λ l. offsets_at body l ranges) of.layout_is ∙ sym of.offsets_is

    pub field_reads : ReadsTo s end
    field_reads = record {
      few = m.few_values;
      reaches =
          subst (λ b. Reaches (layout_named s.layout) b end) offsets_are
          (reaches body node ranges inside inner_nodes inner_others end m.places s.layout (facts s.layout of.layout_is));
    }

    pub source_walk : (within : Place) → within.node ≡ place.node + 1 → within.buffer ≡ place.buffer + buffers_in_layout (layout_named s.layout)
        → MayWalk inside head within body (end_inside (layout_named s.layout) s.offsets.now end)
    source_walk within at_node at_buffer =
        subst (λ b. MayWalk inside head within body (end_inside (layout_named s.layout) b end)) offsets_are
        (inside_walk s.layout of.layout_is within at_node at_buffer)
