-- What a walk adds to a table, one step after the other.
use Rattle.std.proofs.Common.{◌≡◌, refl, sym, ap, ap₂, subst, ◌∙◌, ℕ, zero, suc, ◌+◌, ◌-◌, ◌*◌, ◌<◌, ◌≤◌, ◌==◌, not, if◌then◌else◌, Bool, true, false, List, [], ◌++◌, map, length, get_or, take, drop, pos, arith}
use Rattle.std.proofs.Math.ListN.{set}
use Rattle.std.proofs.lemmas.List.Sums.{sum_by-cons}
use Rattle.std.specs.List.{range_with_len}
use Rattle.header_types.specs.declared.schema.Field.{Field, out-Field}
use Rattle.header_types.specs.declared.header.BatchHead.{BatchHead}
use Rattle.header_types.specs.Fields.{tree, Forest, no_more, more}
use Rattle.header_types.specs.FieldView.{field_head_of, entries_in, fields_in}
use Rattle.header_types.proofs.FieldTrees.{forest_next}
use Rattle.bitmaps.specs.Bits.{zeros}
use Rattle.batch_types.specs.Layouts.{Layout, layout_of, buffers_in_layout}
use Rattle.batch_types.specs.Laid.{Range, node_count}
use Rattle.batch_types.specs.Placed.{buffer_at}
use Rattle.batch_columns.specs.Held.{layout_named}
use Rattle.batch_columns.specs.Read.{column_at, offsets_at, IsSource}
use Rattle.batch_columns.specs.declared.place.Place.{Place}
use Rattle.batch_columns.specs.declared.encoded_column.EncodedColumn.{EncodedColumn}
use Rattle.batch_columns.specs.Sources.{nodes_of_tree, buffers_of_tree, columns_from}
use Rattle.batch_reading.specs.Planned.{spots_inside}
use Rattle.batch_reading.specs.Readable.{forest_seen, columns_there}
use Rattle.batch_reading.specs.Spots.{Spot}
use Rattle.batch_reading.specs.Taken.{valid_in, is_shown, seen}
use Rattle.batch_lengths.specs.declared.validity_mask.ValidityMask.{ValidityMask}
use Rattle.batch_lengths.specs.declared.counted.Counted.{Counted}
use Rattle.batch_lengths.specs.Along.{run_spots, source_spots, marked_from, mark_of, AreTaken}
use Rattle.batch_lengths.specs.Counted.{has_null, span_total, IsCounted}
use Rattle.batch_lengths.specs.Sizes.{MayWalk}
use Rattle.batch_lengths.specs.Tally.{counted_of, tally, tally_of, plus, added_from, counted_with}
use Rattle.batch_lengths.proofs.Parts.{inside_both, run_both, source_both}
use Rattle.batch_lengths.proofs.Blanks.{AreBlank, listed_blank, inside_blank}
use Rattle.batch_lengths.proofs.Marking.{same_on, moved_from, marked_both}
use Rattle.batch_lengths.proofs.Whole.{all_seen}
use Rattle.batch_lengths.proofs.Tallying.{from_long, from_none, from_first, from_parts, from_both, from_blank, tally_of_long, tally_long}
use Rattle.batch_lengths.proofs.Walking.{rest_same, columns_same}

module _ (fields : Forest) (head : BatchHead) (place : Place) (body : List ℕ) where
  abbrev pub Adds : List Counted → List Counted → List Spot → Type 0
  Adds before after spots = after ≡ added_from place.node before (tally body (columns_there fields head place) spots)

  columns_long : (spots : List Spot) → length (tally body (columns_there fields head place) spots) ≡ node_count fields
  columns_long spots = tally_long body fields (drop place.node head.nodes.items) (drop place.buffer head.buffers.items) spots

  pub adds_blank : (table : List Counted) (spots : List Spot) → place.node + node_count fields ≤ length table → AreBlank spots → Adds table table spots
  adds_blank table spots room blank =
      sym (from_blank place.node table body (columns_there fields head place) spots (omega (arith, room, columns_long spots)) blank)

  pub adds_none : (table : List Counted) (spots : List Spot) → place.node + node_count fields ≤ length table → spots ≡ [] → Adds table table spots
  adds_none table spots room none = subst (Adds table table) (sym none) (adds_blank table [] room tt)

  pub adds_long : (before after : List Counted) (spots : List Spot) → place.node + node_count fields ≤ length before → Adds before after spots → length after ≡ length before
  adds_long before after spots room adds =
      ap length adds ∙ from_long place.node before (tally body (columns_there fields head place) spots) (omega (arith, room, columns_long spots))

  pub adds_both : (before middle after : List Counted) (xs ys zs : List Spot) → zs ≡ xs ++ ys → Adds before middle xs → Adds middle after ys → Adds before after zs
  adds_both before middle after xs ys zs is first next =
      next ∙ ap (λ table. added_from place.node table (tally body (columns_there fields head place) ys)) first
      ∙ from_both place.node before body (columns_there fields head place) xs ys
      ∙ ap (λ l. added_from place.node before (tally body (columns_there fields head place) l)) (sym is)

-- ---- with blank cells between

module _ (fields : Forest) (head : BatchHead) (place : Place) (body : List ℕ) (table : List Counted) (room : place.node + node_count fields ≤ length table) where
  pub with_long : (spots : List Spot) → length (counted_with fields head place body table spots) ≡ length table
  with_long spots = adds_long fields head place body table (counted_with fields head place body table spots) spots room refl

  pub with_gap : (xs gap ys zs : List Spot) → AreBlank gap → zs ≡ xs ++ (gap ++ ys)
      → counted_with fields head place body table zs ≡ counted_with fields head place body (counted_with fields head place body table xs) ys
  with_gap xs gap ys zs blank is =
      let made = counted_with fields head place body table xs in
      let after = counted_with fields head place body made ys in
      sym (adds_both fields head place body table made after xs (gap ++ ys) zs is refl
      (adds_both fields head place body made made after gap ys (gap ++ ys) refl
      (adds_blank fields head place body made gap (omega (arith, room, with_long xs)) blank) refl))

  pub with_both : (xs ys zs : List Spot) → zs ≡ xs ++ ys
      → counted_with fields head place body (counted_with fields head place body table xs) ys ≡ counted_with fields head place body table zs
  with_both xs ys zs is =
      adds_both fields head place body table (counted_with fields head place body table xs)
      (counted_with fields head place body (counted_with fields head place body table xs) ys) xs ys zs is refl refl

-- ---- values that are all wanted, or are all not

marked_alike : (marks : ValidityMask) (number n : ℕ) (mark : Bool) → ((k : ℕ) → k < n → mark_of marks (number + k) ≡ mark)
    → marked_from marks number n ≡ map (λ place. (place, mark)) (range_with_len (marks.start + number) n)
marked_alike marks number n mark all =
    same_on (λ k. (marks.start + k, mark_of marks k)) (λ k. (marks.start + k, mark)) number n
    (λ k from below. ap (λ m. (marks.start + k, m)) (subst (λ j. mark_of marks j ≡ mark) (omega (arith, from)) (all (k - number) (omega (arith, from, below)))))
    ∙ moved_from (λ place. (place, mark)) marks.start number (marks.start + number) n (omega arith)

pub unmarked_inside : (layout : Layout) (offsets : List ℕ) (marks : ValidityMask) (number n : ℕ) → ((k : ℕ) → k < n → mark_of marks (number + k) ≡ false)
    → AreBlank (spots_inside layout offsets (marked_from marks number n))
unmarked_inside layout offsets marks number n none =
    inside_blank layout offsets (marked_from marks number n)
    (subst AreBlank (sym (marked_alike marks number n false none)) (listed_blank false (range_with_len (marks.start + number) n) refl))

shown_each : (validity : List ℕ) (start n : ℕ) → ((k : ℕ) → k < n → valid_in validity (start + k) ≡ true) → zeros (map (is_shown validity) (run_spots start n)) ≡ 0
shown_each validity start zero valid = refl
shown_each validity start (suc n) valid =
    let first : start + 0 ≡ start = omega arith in
    sum_by-cons (λ bit. if not bit then 1 else 0) (is_shown validity (start, true)) (map (is_shown validity) (run_spots (start + 1) n))
    ∙ ap₂ (λ shown m. (if not shown then 1 else 0) + m) (subst (λ s. valid_in validity s ≡ true) first (valid 0 (omega arith)))
    (shown_each validity (start + 1) n (λ k below. subst (λ s. valid_in validity s ≡ true) (omega arith) (valid (k + 1) (omega (arith, below)))))

pub none_null_taken : (validity : List ℕ) (marks : ValidityMask) (number n : ℕ) → AreTaken validity marks → number + n ≤ marks.count
    → ((k : ℕ) → k < n → mark_of marks (number + k) ≡ true) → has_null validity (run_spots (marks.start + number) n) ≡ false
none_null_taken validity marks number n taken there all =
    ap (λ m. not (m == 0))
    (shown_each validity (marks.start + number) n
    (λ k below. subst (λ s. valid_in validity s ≡ true) (omega arith) (taken (number + k) (omega (arith, below, there)) (all k below))))

pub taken_inside : (s : EncodedColumn) (marks : ValidityMask) (number n : ℕ) → has_null s.validity.now (run_spots (marks.start + number) n) ≡ false
    → ((k : ℕ) → k < n → mark_of marks (number + k) ≡ true)
    → source_spots s (run_spots (marks.start + number) n) ≡ spots_inside (layout_named s.layout) s.offsets.now (marked_from marks number n)
taken_inside s marks number n whole all =
    ap (spots_inside (layout_named s.layout) s.offsets.now)
    (all_seen s.validity.now (marks.start + number) n whole ∙ sym (marked_alike marks number n true all))

pub inside_more : (layout : Layout) (offsets : List ℕ) (marks : ValidityMask) (m n : ℕ)
    → spots_inside layout offsets (marked_from marks 0 (m + n)) ≡ spots_inside layout offsets (marked_from marks 0 m) ++ spots_inside layout offsets (marked_from marks m n)
inside_more layout offsets marks m n =
    let at : 0 + m ≡ m = omega arith in
    ap (spots_inside layout offsets) (marked_both marks 0 m n ∙ ap (λ k. marked_from marks 0 m ++ marked_from marks k n) at)
    ∙ inside_both layout offsets (marked_from marks 0 m) (marked_from marks m n)

-- ---- one run more

pub source_more : (s : EncodedColumn) (start m n : ℕ) → source_spots s (run_spots start (m + n)) ≡ source_spots s (run_spots start m) ++ source_spots s (run_spots (start + m) n)
source_more s start m n = ap (source_spots s) (run_both start m n) ∙ source_both s (run_spots start m) (run_spots (start + m) n)

-- ---- one field after the other

module _ (fields : List Field) (i : ℕ) (x : Field) (there : i < length fields) (is : x ≡ get_or fields i x) (head : BatchHead) (place next after : Place) (body : List ℕ)
    (end : ℕ) (m : MayWalk (more (tree (field_head_of x) (entries_in x) (fields_in x)) (forest_seen (drop (i + 1) fields))) head next body end)
    (after_node : after.node ≡ next.node + nodes_of_tree (tree (field_head_of x) (entries_in x) (fields_in x)))
    (after_buffer : after.buffer ≡ next.buffer + buffers_of_tree (tree (field_head_of x) (entries_in x) (fields_in x)))
    (after_few : after.buffer ≤ 3 * after.node) (spots : List Spot) where
  pub adds_next : (table made : List Counted) → next.node + node_count (forest_seen (drop i fields)) ≤ length table
      → made ≡ added_from next.node table (tally_of body (column_at x head next) spots)
      → added_from next.node table (tally body (columns_there (forest_seen (drop i fields)) head next) spots)
      ≡ added_from after.node made (tally body (columns_there (forest_seen (drop (i + 1) fields)) head after) spots)
  adds_next table made room is_made =
      ap (λ f. added_from next.node table (tally body (columns_there f head next) spots)) (forest_next fields i x there is)
      ∙ from_parts next.node after.node table (tally_of body (column_at x head next) spots)
      (tally body (columns_from (forest_seen (drop (i + 1) fields)) (drop (nodes_of_tree (tree (field_head_of x) (entries_in x) (fields_in x))) (drop next.node head.nodes.items))
      (drop (buffers_of_tree (tree (field_head_of x) (entries_in x) (fields_in x))) (drop next.buffer head.buffers.items))) spots)
      (after_node ∙ ap (λ n. next.node + n) (sym long)) (omega (arith, after_node, room, ap node_count (forest_next fields i x there is)))
      ∙ ap₂ (λ l cs. added_from after.node l (tally body cs spots)) (sym is_made)
      (rest_same (field_head_of x) (entries_in x) (fields_in x) (forest_seen (drop (i + 1) fields)) head next body end m after after_node after_buffer after_few)
    where
      long : length (tally_of body (column_at x head next) spots) ≡ nodes_of_tree (tree (field_head_of x) (entries_in x) (fields_in x))
      long = tally_of_long body (tree (field_head_of x) (entries_in x) (fields_in x)) (drop next.node head.nodes.items) (drop next.buffer head.buffers.items) spots

  pub made_long : (table made : List Counted) → next.node + node_count (forest_seen (drop i fields)) ≤ length table
      → made ≡ added_from next.node table (tally_of body (column_at x head next) spots) → length made ≡ length table
  made_long table made room is_made =
      ap length is_made
      ∙ from_long next.node table (tally_of body (column_at x head next) spots)
      (omega (
        arith,
        room,
        ap node_count (forest_next fields i x there is),
        tally_of_long body (tree (field_head_of x) (entries_in x) (fields_in x)) (drop next.node head.nodes.items) (drop next.buffer head.buffers.items) spots,
      ))

-- ---- one column

counted_same : (x y : Counted) → x.has_null ≡ y.has_null → x.total ≡ y.total → x ≡ y
counted_same x y nulls totals = ap₂ (λ n t. let r : Counted = record { has_null = n; total = t } in r) nulls totals

module _ (x : Field) (head : BatchHead) (place : Place) (body : List ℕ) (end : ℕ)
    (m : MayWalk (more (tree (field_head_of x) (entries_in x) (fields_in x)) no_more) head place body end) (s : EncodedColumn)
    (of : IsSource body (layout_of (field_head_of x).data_type) (get_or (drop place.node head.nodes.items) 0 (pos 0, pos 0))
    (take (buffers_in_layout (layout_of (field_head_of x).data_type)) (drop place.buffer head.buffers.items)) s)
    (spots : List Spot) (counted : Counted) (has : IsCounted s spots counted) (table : List Counted) (entry old : Counted) (room : place.node < length table)
    (entry_is : entry ≡ plus (get_or table place.node old) counted) where
  abbrev ranges_here : List Range
  ranges_here = take (buffers_in_layout (layout_of (field_head_of x).data_type)) (drop place.buffer head.buffers.items)

  counted_is : counted ≡ counted_of (layout_of (field_head_of x).data_type) (buffer_at body ranges_here 0) (offsets_at body (layout_of (field_head_of x).data_type) ranges_here) spots
  counted_is =
      counted_same counted (counted_of (layout_of (field_head_of x).data_type) (buffer_at body ranges_here 0) (offsets_at body (layout_of (field_head_of x).data_type) ranges_here) spots)
      (has.nulls ∙ ap (λ v. has_null v spots) of.validity_is)
      (has.lengths ∙ ap (λ l. span_total l s.offsets.now (map (seen s.validity.now) spots)) of.layout_is
      ∙ ap₂ (λ b v. span_total (layout_of (field_head_of x).data_type) b (map (seen v) spots)) of.offsets_is of.validity_is)

  spots_are : source_spots s spots ≡ spots_inside (layout_of (field_head_of x).data_type) (offsets_at body (layout_of (field_head_of x).data_type) ranges_here) (map (seen (buffer_at body ranges_here 0)) spots)
  spots_are =
      ap (λ l. spots_inside l s.offsets.now (map (seen s.validity.now) spots)) of.layout_is
      ∙ ap₂ (λ b v. spots_inside (layout_of (field_head_of x).data_type) b (map (seen v) spots)) of.offsets_is of.validity_is

  pub column_made : (first : Place) → first.node ≡ place.node + 1 → first.buffer ≡ place.buffer + buffers_in_layout (layout_named s.layout) → (made : List Counted)
      → made ≡ added_from first.node (set table place.node entry) (tally body (columns_there (fields_in x) head first) (source_spots s spots))
      → made ≡ added_from place.node table (tally_of body (column_at x head place) spots)
  column_made first at_node at_buffer made is =
      let one : place.node + 1 ≡ suc place.node = omega arith in
      is
      ∙ ap (λ n. added_from n (set table place.node entry) (tally body (columns_there (fields_in x) head first) (source_spots s spots))) (at_node ∙ one)
      ∙ ap₂ (λ cs l. added_from (suc place.node) (set table place.node entry) (tally body cs l))
      (sym (columns_same (field_head_of x) (entries_in x) (fields_in x) no_more head place body end m s.layout of.layout_is first at_node at_buffer)) spots_are
      ∙ ap (λ e. added_from (suc place.node) (set table place.node e) (tally body (columns_from (fields_in x) (drop 1 (drop place.node head.nodes.items))
      (drop (buffers_in_layout (layout_of (field_head_of x).data_type)) (drop place.buffer head.buffers.items)))
      (spots_inside (layout_of (field_head_of x).data_type) (offsets_at body (layout_of (field_head_of x).data_type) ranges_here) (map (seen (buffer_at body ranges_here 0)) spots))))
      (entry_is ∙ ap (plus (get_or table place.node old)) counted_is)
      ∙ sym (from_first place.node table old (counted_of (layout_of (field_head_of x).data_type) (buffer_at body ranges_here 0) (offsets_at body (layout_of (field_head_of x).data_type) ranges_here) spots)
      (tally body (columns_from (fields_in x) (drop 1 (drop place.node head.nodes.items))
      (drop (buffers_in_layout (layout_of (field_head_of x).data_type)) (drop place.buffer head.buffers.items)))
      (spots_inside (layout_of (field_head_of x).data_type) (offsets_at body (layout_of (field_head_of x).data_type) ranges_here) (map (seen (buffer_at body ranges_here 0)) spots))) room)

  -- where no column stands inside it
  pub bare_made : fields_in x ≡ no_more → (first : Place) → first.node ≡ place.node + 1 → first.buffer ≡ place.buffer + buffers_in_layout (layout_named s.layout)
      → set table place.node entry ≡ added_from place.node table (tally_of body (column_at x head place) spots)
  bare_made none first at_node at_buffer =
      column_made first at_node at_buffer (set table place.node entry)
      (sym (ap (λ f. added_from first.node (set table place.node entry) (tally body (columns_there f head first) (source_spots s spots))) none
      ∙ from_none first.node (set table place.node entry)))

pub no_fields_in : (x : Field) → (out-Field x).children.items ≡ [] → fields_in x ≡ no_more
no_fields_in x none = ap forest_seen none
