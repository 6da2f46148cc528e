-- From the columns of some fields to those inside the first and to those behind it.
use Rattle.std.proofs.Common.{◌≡◌, sym, ap, ap₂, subst, ◌∙◌, ℕ, zero, suc, ◌+◌, ◌<◌, ◌≤◌, pos, ◌≤ℤ◌, nat_abs, List, [], ◌∷◌, map, length, get_or, take, drop, arith}
use Rattle.std.proofs.lemmas.Int.{ints}
use Rattle.std.proofs.lemmas.List.{drop-drop, get_or-drop}
use Rattle.std.specs.List.{AllByRecursion}
use Rattle.header_types.specs.declared.schema.Field.{Field}
use Rattle.header_types.specs.declared.header.BatchHead.{BatchHead}
use Rattle.header_types.specs.Fields.{FieldHead, Entry, tree, Forest, no_more, more, width}
use Rattle.header_types.specs.FieldView.{field_head_of, entries_in, fields_in}
use Rattle.header_types.proofs.FieldTrees.{forest_next}
use Rattle.batch_types.specs.Cells.{Cell}
use Rattle.batch_types.specs.Layouts.{Layout, layout_of, buffers_in_layout}
use Rattle.batch_types.specs.Laid.{Node, Range, laid, node_count}
use Rattle.batch_types.specs.LaysOut.{KeepsRule, AreSound, values_limit}
use Rattle.batch_types.specs.Order.{AreKept, column_order}
use Rattle.batch_types.specs.Placed.{buffer_at}
use Rattle.batch_types.specs.Rules.{asked_inside, places_inside, first_length}
use Rattle.batch_types.specs.Shapes.{shape, shape_then, shape_of, shapes_of}
use Rattle.batch_types.specs.Typed.{IsCellOf}
use Rattle.batch_columns.specs.Contents.{Contents}
use Rattle.batch_columns.specs.Held.{shapes_held, layout_named}
use Rattle.batch_columns.specs.Kept.{IsKept}
use Rattle.batch_columns.specs.Read.{offsets_at, values_at}
use Rattle.batch_columns.specs.declared.layout.Layout.{Layout as Declared}
use Rattle.batch_columns.specs.declared.place.Place.{Place}
use Rattle.batch_columns.specs.Sources.{nodes_of_tree, buffers_of_tree, column_from, columns_from}
use Rattle.batch_reading.specs.declared.selection.Selection.{Selection}
use Rattle.batch_reading.specs.declared.plan.ChildSelection.{ChildSelection}
use Rattle.batch_reading.specs.declared.plan.Plan.{Plan}
use Rattle.batch_reading.specs.Spots.{Spot, spots_of, IsSelection}
use Rattle.batch_reading.specs.Spread.{ReadsWithin}
use Rattle.batch_reading.specs.Taken.{seen}
use Rattle.batch_reading.specs.Planned.{spots_inside, AreInside, IsPlanned}
use Rattle.batch_reading.specs.Built.{cells_wanted, columns_wanted, AreFit}
use Rattle.batch_reading.specs.Readable.{forest_seen, columns_there, AreReadable, AreBuilt}
use Rattle.batch_reading.proofs.Bounding.{inside_wanted, inside_spots}
use Rattle.batch_reading.proofs.Fitting.{MayHave, may_have}
use Rattle.batch_reading.proofs.Finishing.{planned_kept}
use Rattle.batch_reading.proofs.Reading.{FieldFacts, inside_limit, reads, inside_below, limit_few, sound_inside, fit_inside, may_hold, room_taken}

-- ---- fields inside a field are fewer

pub falls_fields : (fields : List Field) (i : ℕ) (x : Field) → i < length fields → x ≡ get_or fields i x → node_count (fields_in x) < node_count (forest_seen fields)
falls_fields [] i x there is = absurd (omega (arith, there))
falls_fields (field ∷ fields) zero x there is = omega (arith, ap node_count (forest_next (field ∷ fields) 0 x there is))
falls_fields (field ∷ fields) (suc i) x there is = omega (arith, falls_fields fields i x (omega (arith, there)) is)

pub readable_next : (fields : List Field) (i : ℕ) (x : Field) (head : BatchHead) (place : Place) (body : List ℕ) (selection : Selection) → i < length fields → x ≡ get_or fields i x
    → AreReadable (forest_seen (drop i fields)) head place body selection
    → AreReadable (more (tree (field_head_of x) (entries_in x) (fields_in x)) (forest_seen (drop (i + 1) fields))) head place body selection
readable_next fields i x head place body selection there is r =
    subst (λ f. AreReadable f head place body selection) (forest_next fields i x there is) r

-- what is planned of the parts of a source, by the body; the source's layout is the one of the field
pub as_buffers : (layout field_layout : Layout) → layout ≡ field_layout → (body : List ℕ) (ranges : List Range) (validity offsets values : List ℕ) (spots : List Spot) (plan : Plan)
    → validity ≡ buffer_at body ranges 0 → offsets ≡ offsets_at body field_layout ranges → values ≡ values_at body field_layout ranges
    → IsPlanned layout validity offsets values spots plan
    → IsPlanned layout (buffer_at body ranges 0) (offsets_at body layout ranges) (values_at body layout ranges) spots plan
as_buffers layout field_layout named body ranges validity offsets values spots plan v o w planned =
    subst (λ y. IsPlanned layout y (offsets_at body layout ranges) (values_at body layout ranges) spots plan) v
    (subst (λ y. IsPlanned layout validity y (values_at body layout ranges) spots plan) (o ∙ ap (λ l. offsets_at body l ranges) (sym named))
    (subst (λ y. IsPlanned layout validity offsets y spots plan) (w ∙ ap (λ l. values_at body l ranges) (sym named)) planned))

-- ---- nodes

first_within : (inside : Forest) (nodes : List Node) (start : ℕ) (others : List Range) → start + node_count inside ≤ length nodes
    → ((k : ℕ) → k < length nodes → pos 0 ≤ℤ (get_or nodes k (pos 0, pos 0)).0) → ((k : ℕ) → k < length nodes → (get_or nodes k (pos 0, pos 0)).0 ≤ℤ pos values_limit)
    → first_length (columns_from inside (drop start nodes) others) ≤ values_limit
first_within no_more nodes start others there counted few = omega arith
first_within (more (tree field entries inner) rest) nodes start others there counted few =
    let below : start + 0 < length nodes = omega (arith, there) in
    subst (λ (node : Node). nat_abs node.0 ≤ values_limit) (sym (get_or-drop start nodes 0 (pos 0, pos 0)))
    (omega (arith, ints, counted (start + 0) below, few (start + 0) below))

-- ---- one field

module _ (fh : FieldHead) (entries : List Entry) (inside rest : Forest) (head : BatchHead) (place : Place) (body : List ℕ) (selection : Selection)
    (r : AreReadable (more (tree fh entries inside) rest) head place body selection) (bytes : (k : ℕ) → get_or body k 0 < 256) where
  abbrev nodes : List Node
  nodes = drop place.node head.nodes.items

  abbrev others : List Range
  others = drop place.buffer head.buffers.items

  abbrev node : Node
  node = get_or (drop place.node head.nodes.items) 0 (pos 0, pos 0)

  abbrev ranges : List Range
  ranges = take (buffers_in_layout (layout_of fh.data_type)) (drop place.buffer head.buffers.items)

  abbrev inner_nodes : List Node
  inner_nodes = drop 1 (drop place.node head.nodes.items)

  abbrev inner_others : List Range
  inner_others = drop (buffers_in_layout (layout_of fh.data_type)) (drop place.buffer head.buffers.items)

  node_is_few : nat_abs node.0 ≤ values_limit
  node_is_few =
      let below : place.node + 0 < length head.nodes.items = omega (arith, r.nodes_there) in
      subst (λ (n : Node). nat_abs n.0 ≤ values_limit) (sym (get_or-drop place.node head.nodes.items 0 (pos 0, pos 0)))
      (omega (arith, ints, r.counted (place.node + 0) below, r.few (place.node + 0) below))

  first_is_few : first_length (columns_from inside inner_nodes inner_others) ≤ values_limit
  first_is_few =
      subst (λ l. first_length (columns_from inside l inner_others) ≤ values_limit) (sym (drop-drop 1 place.node head.nodes.items))
      (first_within inside head.nodes.items (place.node + 1) inner_others (omega (arith, r.nodes_there)) r.counted r.few)

  pub facts : (layout : Declared) → layout_named layout ≡ layout_of fh.data_type
      → FieldFacts layout body node ranges inside inner_nodes inner_others r.asked r.places selection
  facts layout named = record {
    kept =
        subst (λ l. AreKept (KeepsRule body l node ranges (columns_from inside inner_nodes inner_others) r.asked r.places) column_order) (sym named) r.sound.0.0;
    sound =
        subst (λ l. AreSound body (columns_from inside inner_nodes inner_others) (asked_inside l (nat_abs node.0)) (places_inside body l ranges r.places)) (sym named) r.sound.0.1;
    may = subst (λ l. MayHave l (width inside)) (sym named) (may_have fh.data_type (width inside) r.formed.0.0);
    fit =
        subst (λ l. AllByRecursion (IsCellOf (shape l (shapes_of inside)))
        (cells_wanted body (laid l node ranges (columns_from inside inner_nodes inner_others)) (shape l (shapes_of inside)) (spots_of selection))) (sym named) r.fit.0;
    formed = r.formed.0.2;
    wanted_is = r.wanted_is;
    node_few = node_is_few;
    first_few = first_is_few;
    bytes = bytes;
  }

  pub reads_field : (layout : Declared) → layout_named layout ≡ layout_of fh.data_type
      → ReadsWithin (layout_named layout) r.asked (first_length (columns_from inside inner_nodes inner_others)) (offsets_at body (layout_named layout) ranges) (values_at body (layout_named layout) ranges)
  reads_field layout named = reads body node ranges inside inner_nodes inner_others r.asked r.places selection layout (facts layout named)

  pub source_reads : (layout : Declared) → layout_named layout ≡ layout_of fh.data_type → (offsets values : List ℕ)
      → offsets ≡ offsets_at body (layout_of fh.data_type) ranges → values ≡ values_at body (layout_of fh.data_type) ranges
      → (limit : ℕ) × (total : ℕ) × IsSelection limit selection × ReadsWithin (layout_named layout) limit total offsets values
  source_reads layout named offsets values o v = (
    r.asked,
    first_length (columns_from inside inner_nodes inner_others),
    r.wanted_is,
    subst (λ b. ReadsWithin (layout_named layout) r.asked (first_length (columns_from inside inner_nodes inner_others)) b values)
        (sym (o ∙ ap (λ l. offsets_at body l ranges) (sym named)))
        (subst (λ b. ReadsWithin (layout_named layout) r.asked (first_length (columns_from inside inner_nodes inner_others)) (offsets_at body (layout_named layout) ranges) b)
        (sym (v ∙ ap (λ l. values_at body l ranges) (sym named)))
        (reads_field layout named)),
  )

  -- the columns inside
  module _ (layout : Declared) (named : layout_named layout ≡ layout_of fh.data_type) (planned : ChildSelection) (w : Selection) (within : Place)
      (are : AreInside (spots_inside (layout_named layout) (offsets_at body (layout_named layout) ranges) (map (seen (buffer_at body ranges 0)) (spots_of selection))) planned)
      (runs : w.runs.now ≡ planned.runs.items) (count : w.count ≡ planned.count) (there : w.there.now ≡ planned.there)
      (at_node : within.node ≡ place.node + 1) (at_buffer : within.buffer ≡ place.buffer + buffers_in_layout (layout_named layout)) where
    columns_same : columns_from inside inner_nodes inner_others ≡ columns_there inside head within
    columns_same =
        ap₂ (columns_from inside) (drop-drop 1 place.node head.nodes.items ∙ ap (λ n. drop n head.nodes.items) (sym at_node))
        (drop-drop (buffers_in_layout (layout_of fh.data_type)) place.buffer head.buffers.items
        ∙ ap (λ n. drop n head.buffers.items) (sym (at_buffer ∙ ap (λ l. place.buffer + buffers_in_layout l) named)))

    pub inside_readable : AreReadable inside head within body w
    inside_readable =
        let f : FieldFacts layout body node ranges inside inner_nodes inner_others r.asked r.places selection = facts layout named in
        record {
          asked = inside_limit layout (nat_abs node.0) (first_length (columns_from inside inner_nodes inner_others));
          places = places_inside body (layout_named layout) ranges r.places;
          wanted_is =
              inside_wanted (inside_limit layout (nat_abs node.0) (first_length (columns_from inside inner_nodes inner_others)))
              (spots_inside (layout_named layout) (offsets_at body (layout_named layout) ranges) (map (seen (buffer_at body ranges 0)) (spots_of selection))) planned w are
              (inside_below body node ranges inside inner_nodes inner_others r.asked r.places selection layout f)
              (limit_few body node ranges inside inner_nodes inner_others r.asked r.places selection layout f) runs count there;
          sound =
              subst (λ cs. AreSound body cs (inside_limit layout (nat_abs node.0) (first_length (columns_from inside inner_nodes inner_others))) (places_inside body (layout_named layout) ranges r.places))
              columns_same (sound_inside body node ranges inner_nodes inner_others r.asked r.places selection layout inside f);
          fit =
              subst (λ cs. AreFit body cs (shapes_of inside) (spots_of w)) columns_same
              (subst (AreFit body (columns_from inside inner_nodes inner_others) (shapes_of inside)) (sym (inside_spots _ planned w are runs count there))
              (fit_inside body node ranges inner_nodes inner_others r.asked r.places selection layout inside f));
          formed = r.formed.0.2;
          nodes_there = omega (arith, at_node, r.nodes_there);
          buffers_there = omega (arith, at_buffer, ap buffers_in_layout named, r.buffers_there);
          counted = r.counted;
          few = r.few;
        }

    -- the cells of the column, by what stands inside it
    abbrev pub field_cells : List Contents → List Cell
    field_cells columns =
        cells_wanted body (laid (layout_named layout) node ranges (columns_from inside inner_nodes inner_others)) (shape (layout_named layout) (shapes_held columns)) (spots_of selection)

    pub field_kept : (plan : Plan) (columns : List Contents)
        → IsPlanned (layout_named layout) (buffer_at body ranges 0) (offsets_at body (layout_named layout) ranges) (values_at body (layout_named layout) ranges)
        (spots_of selection) plan
        → AreBuilt inside head within body w columns
        → IsKept (layout_named layout) (field_cells columns) plan.nulls plan.validity.items plan.offsets.items plan.values.items columns
    field_kept plan columns is built =
        let f : FieldFacts layout body node ranges inside inner_nodes inner_others r.asked r.places selection = facts layout named in
        planned_kept body node ranges (spots_of selection) plan layout (columns_from inside inner_nodes inner_others) columns (
          is,
          subst (λ s. AllByRecursion (IsCellOf (shape (layout_named layout) s))
              (cells_wanted body (laid (layout_named layout) node ranges (columns_from inside inner_nodes inner_others)) (shape (layout_named layout) s) (spots_of selection)))
              (sym built.0) f.fit,
          may_hold body node ranges inner_nodes inner_others r.asked r.places selection layout inside columns f.may built.0,
          built.1
              ∙ ap (λ cs. columns_wanted body cs (shapes_of inside) (spots_of w)) (sym columns_same)
              ∙ ap₂ (columns_wanted body (columns_from inside inner_nodes inner_others)) (sym built.0) (inside_spots _ planned w are runs count there),
          room_taken body node ranges inner_nodes inner_others r.asked r.places selection layout inside f,
        )

    pub field_is : (columns : List Contents) → shapes_held columns ≡ shapes_of inside
        → field_cells columns ≡ cells_wanted body (column_from (tree fh entries inside) nodes others) (shape_of (tree fh entries inside)) (spots_of selection)
    field_is columns same =
        ap₂ (λ l s. cells_wanted body (laid l node ranges (columns_from inside inner_nodes inner_others)) (shape l s) (spots_of selection)) named same

  -- the columns behind
  module _ (next : Place) (at_node : next.node ≡ place.node + nodes_of_tree (tree fh entries inside)) (at_buffer : next.buffer ≡ place.buffer + buffers_of_tree (tree fh entries inside)) where
    rest_same : columns_from rest (drop (nodes_of_tree (tree fh entries inside)) nodes) (drop (buffers_of_tree (tree fh entries inside)) others) ≡ columns_there rest head next
    rest_same =
        ap₂ (columns_from rest)
        (drop-drop (nodes_of_tree (tree fh entries inside)) place.node head.nodes.items ∙ ap (λ n. drop n head.nodes.items) (sym at_node))
        (drop-drop (buffers_of_tree (tree fh entries inside)) place.buffer head.buffers.items ∙ ap (λ n. drop n head.buffers.items) (sym at_buffer))

    pub next_readable : AreReadable rest head next body selection
    next_readable = record {
      asked = r.asked;
      places = r.places;
      wanted_is = r.wanted_is;
      sound = subst (λ cs. AreSound body cs r.asked r.places) rest_same r.sound.1;
      fit = subst (λ cs. AreFit body cs (shapes_of rest) (spots_of selection)) rest_same r.fit.1;
      formed = r.formed.1;
      nodes_there = omega (arith, at_node, r.nodes_there);
      buffers_there = omega (arith, at_buffer, r.buffers_there);
      counted = r.counted;
      few = r.few;
    }

    pub built_more : (child : Contents) (columns : List Contents) → child.shape ≡ shape_of (tree fh entries inside)
        → child.cells ≡ cells_wanted body (column_from (tree fh entries inside) nodes others) (shape_of (tree fh entries inside)) (spots_of selection)
        → AreBuilt rest head next body selection columns → AreBuilt (more (tree fh entries inside) rest) head place body selection (child ∷ columns)
    built_more child columns shaped cells built = (
      ap₂ shape_then shaped built.0,
      ap₂ (λ x xs. x ∷ xs) cells (built.1 ∙ ap (λ cs. columns_wanted body cs (shapes_of rest) (spots_of selection)) (sym rest_same)),
    )
