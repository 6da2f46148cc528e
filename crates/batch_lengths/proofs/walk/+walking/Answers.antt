use Rattle.std.proofs.Common.{◌≡◌, refl, sym, ap, subst, ◌∙◌, true, false, ◌==◌, vec_len, ℕ, ◌+◌, ◌-◌, ◌*◌, ◌<◌, ◌≤◌, List, [], ◌∷◌, drop, slice_index_or, length, arith}
use Rattle.std.proofs.Math.ListN.{length-set}
use Rattle.std.proofs.lemmas.Bool.{eqb-true}
use Rattle.std.specs.List.{range_with_len}
use Rattle.std.proofs.lemmas.List.{drop_all}
use Rattle.header_types.specs.declared.header.BatchHead.{BatchHead}
use Rattle.header_types.specs.declared.schema.Field.{Field, out-Field}
use Rattle.header_types.specs.Fields.{tree, no_more, more}
use Rattle.header_types.specs.FieldView.{field_head_of, entries_in, fields_in}
use Rattle.header_types.proofs.FieldTrees.{forest_next}
use Rattle.batch_types.specs.Layouts.{buffers_in_layout}
use Rattle.batch_types.specs.Laid.{node_count}
use Rattle.batch_columns.specs.Held.{layout_named}
use Rattle.batch_columns.specs.declared.place.Place.{Place}
use Rattle.batch_columns.specs.declared.encoded_column.EncodedColumn.{EncodedColumn}
use Rattle.batch_reading.specs.Planned.{spots_inside}
use Rattle.batch_reading.specs.Readable.{forest_seen, columns_there}
use Rattle.batch_lengths.specs.Along.{run_spots, blank_spots, source_spots, mark_of, marked_from, spots_marked}
use Rattle.batch_lengths.specs.Reach.{ReadsTo, end_inside}
use Rattle.batch_lengths.specs.Sizes.{MayWalk}
use Rattle.batch_lengths.specs.Tally.{tally, added_from, counted_with}
use Rattle.batch_lengths.proofs.Adding.{adds_blank, adds_none, adds_long, adds_both, with_long, with_gap, with_both, unmarked_inside, none_null_taken, taken_inside, inside_more, source_more, adds_next, made_long, column_made, bare_made, no_fields_in}
use Rattle.batch_lengths.proofs.Between.{reads_less, end_less}
use Rattle.batch_lengths.proofs.Blanks.{listed_blank}
use Rattle.batch_lengths.proofs.Marking.{run_marked}
use Rattle.batch_lengths.proofs.Tallying.{from_none}
use Rattle.batch_lengths.proofs.Walking.{falls_fields, walk_less, one_walk, rest_walk, field_reads, source_walk}
use Rattle.batch_lengths.proofs.walk.+walking.Goals as goal

field_walk : (fields : List Field) (i : ℕ) (x : Field) → i < length fields → x ≡ slice_index_or fields i x → (head : BatchHead) (place : Place) (body : List ℕ) (end : ℕ)
    → MayWalk (forest_seen (drop i fields)) head place body end
    → MayWalk (more (tree (field_head_of x) (entries_in x) (fields_in x)) (forest_seen (drop (i + 1) fields))) head place body end
field_walk fields i x there is head place body end m = subst (λ f. MayWalk f head place body end) (forest_next fields i x there is) m

less_inside : (field : Field) (s : EncodedColumn) (head : BatchHead) (first : Place) (body : List ℕ) (end less : ℕ) → less ≤ end → ReadsTo s end
    → MayWalk (fields_in field) head first body (end_inside (layout_named s.layout) s.offsets.now end)
    → MayWalk (fields_in field) head first body (end_inside (layout_named s.layout) s.offsets.now less)
less_inside field s head first body end less few reads m =
    walk_less (fields_in field) head first body (end_inside (layout_named s.layout) s.offsets.now end) (end_inside (layout_named s.layout) s.offsets.now less)
    (end_less (layout_named s.layout) s.offsets.now less end few reads.reaches) m

ends : (a b x y e : ℕ) → a ≡ x → b ≡ y → x + y ≡ e → e ≡ a + b
ends a b x y e p q r = omega (arith, p, q, r)

no_run : (first count : ℕ) → count ≡ 0 → run_spots first count ≡ []
no_run first count none = ap (run_spots first) none

no_items : (xs : List Field) (n : ℕ) → n ≡ length xs → (n == 0) ≡ true → xs ≡ []
no_items [] n all none = refl
no_items (x ∷ xs) n all none = absurd (omega (arith, all, eqb-true n 0 none))

pub walk-walk_column-requires : goal.walk-walk_column-requires
walk-walk_column-requires t c =
    let m = field_walk c.args.fields.now c.loop-field.field-index c.field-item.result c.loop-field-test.true c.field-item.is c.args.head.now c.loop-field.next c.args.body.now
    (c.args.marks.now.start + c.args.marks.now.count) c.loop-field.invariant.may in (
      subst (λ n. 16 * node_count (fields_in c.field-item.result) + 9 < n) c.decreases
          (omega (arith, falls_fields c.args.fields.now c.loop-field.field-index c.field-item.result c.loop-field-test.true c.field-item.is)),
      (
        c.requires.marked,
        (
          one_walk (field_head_of c.field-item.result) (entries_in c.field-item.result) (fields_in c.field-item.result) (forest_seen (drop (c.loop-field.field-index + 1) c.args.fields.now))
              c.args.head.now c.loop-field.next c.args.body.now (c.args.marks.now.start + c.args.marks.now.count) m,
          omega (arith, c.requires.room, c.loop-field.invariant.long, c.loop-field.invariant.nodes, ap node_count (forest_next c.args.fields.now c.loop-field.field-index c.field-item.result c.loop-field-test.true c.field-item.is)),
        ),
      ),
    )

pub walk-place_after-next-requires-clause-node : goal.walk-place_after-next-requires-clause-node
walk-place_after-next-requires-clause-node t c =
    let m = field_walk c.args.fields.now c.loop-field.field-index c.field-item.result c.loop-field-test.true c.field-item.is c.args.head.now c.loop-field.next c.args.body.now
    (c.args.marks.now.start + c.args.marks.now.count) c.loop-field.invariant.may in omega (arith, m.nodes_few)

pub walk-loop-field-preserved : goal.walk-loop-field-preserved
walk-loop-field-preserved t c =
    let m = field_walk c.args.fields.now c.loop-field.field-index c.field-item.result c.loop-field-test.true c.field-item.is c.args.head.now c.loop-field.next c.args.body.now
    (c.args.marks.now.start + c.args.marks.now.count) c.loop-field.invariant.may in
    let room : c.loop-field.next.node + node_count (forest_seen (drop c.loop-field.field-index c.args.fields.now)) ≤ length c.loop-field.table =
    omega (arith, c.requires.room, c.loop-field.invariant.long, c.loop-field.invariant.nodes) in
    record {
      may =
          rest_walk (field_head_of c.field-item.result) (entries_in c.field-item.result) (fields_in c.field-item.result) (forest_seen (drop (c.loop-field.field-index + 1) c.args.fields.now))
          c.args.head.now c.loop-field.next c.args.body.now (c.args.marks.now.start + c.args.marks.now.count) m
          c.place_after-next.result c.place_after-next.ensures.node c.place_after-next.ensures.buffer c.place_after-next.ensures.few;
      long =
          made_long c.args.fields.now c.loop-field.field-index c.field-item.result c.loop-field-test.true c.field-item.is c.args.head.now c.args.place c.loop-field.next c.place_after-next.result c.args.body.now (c.args.marks.now.start + c.args.marks.now.count) m
          c.place_after-next.ensures.node c.place_after-next.ensures.buffer c.place_after-next.ensures.few (spots_marked c.args.marks.now)
          c.loop-field.table c.walk_column.new.table room c.walk_column.ensures
          ∙ c.loop-field.invariant.long;
      nodes = omega (arith, c.loop-field.invariant.nodes, ap node_count (forest_next c.args.fields.now c.loop-field.field-index c.field-item.result c.loop-field-test.true c.field-item.is), c.place_after-next.ensures.node);
      adds =
          c.loop-field.invariant.adds
          ∙ adds_next c.args.fields.now c.loop-field.field-index c.field-item.result c.loop-field-test.true c.field-item.is c.args.head.now c.args.place c.loop-field.next c.place_after-next.result c.args.body.now (c.args.marks.now.start + c.args.marks.now.count) m
          c.place_after-next.ensures.node c.place_after-next.ensures.buffer c.place_after-next.ensures.few (spots_marked c.args.marks.now)
          c.loop-field.table c.walk_column.new.table room c.walk_column.ensures;
    }

pub walk-returns : goal.walk-returns
walk-returns t c =
    let done : drop c.loop-field.field-index c.args.fields.now ≡ [] = drop_all c.loop-field.field-index c.args.fields.now c.loop-field-test.false in
    sym (c.loop-field.invariant.adds
    ∙ ap (λ l. added_from c.loop-field.next.node c.loop-field.table (tally c.args.body.now (columns_there (forest_seen l) c.args.head.now c.loop-field.next) (spots_marked c.args.marks.now))) done
    ∙ from_none c.loop-field.next.node c.loop-field.table)

pub walk_blocks-loop-done-init : goal.walk_blocks-loop-done-init
walk_blocks-loop-done-init t c =
    (omega arith, adds_none (fields_in c.args.field.now) c.args.head.now c.args.first c.args.body.now c.args.table.now [] c.requires.room refl)

pub walk_blocks-walk_block-requires : goal.walk_blocks-walk_block-requires
walk_blocks-walk_block-requires t c =
    let up : c.args.start + c.loop-done.done + c.min-more.result ≤ c.args.start + c.args.count = omega (arith, c.min-more.ensures, c.loop-done.invariant.0) in (
      subst (λ n. 16 * node_count (fields_in c.args.field.now) + 6 < n) c.decreases (omega arith),
      (
        (omega (arith, c.min-more.ensures, c.loop-done.invariant.0), omega (arith, c.min-more.ensures)),
        (
          reads_less c.args.source.now (c.args.start + c.loop-done.done + c.min-more.result) (c.args.start + c.args.count) up c.requires.reads,
          (
            less_inside c.args.field.now c.args.source.now c.args.head.now c.args.first c.args.body.now (c.args.start + c.args.count) (c.args.start + c.loop-done.done + c.min-more.result) up
                c.requires.reads c.requires.may,
            omega (
              arith,
              c.requires.room,
              adds_long (fields_in c.args.field.now) c.args.head.now c.args.first c.args.body.now c.args.table.now c.loop-done.table
                  (source_spots c.args.source.now (run_spots c.args.start c.loop-done.done)) c.requires.room c.loop-done.invariant.1,
            ),
          ),
        ),
      ),
    )

pub walk_blocks-loop-done-preserved : goal.walk_blocks-loop-done-preserved
walk_blocks-loop-done-preserved t c = (
  omega (arith, c.min-more.ensures, c.loop-done.invariant.0),
  adds_both (fields_in c.args.field.now) c.args.head.now c.args.first c.args.body.now c.args.table.now c.loop-done.table c.walk_block.new.table
      (source_spots c.args.source.now (run_spots c.args.start c.loop-done.done))
      (source_spots c.args.source.now (run_spots (c.args.start + c.loop-done.done) c.min-more.result))
      (source_spots c.args.source.now (run_spots c.args.start (c.loop-done.done + c.min-more.result)))
      (source_more c.args.source.now c.args.start c.loop-done.done c.min-more.result) c.loop-done.invariant.1 c.walk_block.ensures,
)

pub walk_column-count_marks-counted-requires-clause-reads : goal.walk_column-count_marks-counted-requires-clause-reads
walk_column-count_marks-counted-requires-clause-reads t c =
    field_reads (field_head_of c.args.field.now) (entries_in c.args.field.now) (fields_in c.args.field.now) no_more c.args.head.now c.args.place c.args.body.now
    (c.args.marks.now.start + c.args.marks.now.count) c.requires.may c.source_of-source.result c.source_of-source.ensures

pub walk_column-walk_inside-requires : goal.walk_column-walk_inside-requires
walk_column-walk_inside-requires t c = (
  subst (λ n. 16 * node_count (fields_in c.args.field.now) + 8 < n) c.decreases (omega arith),
  (
    c.requires.marked,
    (
      field_reads (field_head_of c.args.field.now) (entries_in c.args.field.now) (fields_in c.args.field.now) no_more c.args.head.now c.args.place c.args.body.now
          (c.args.marks.now.start + c.args.marks.now.count) c.requires.may c.source_of-source.result c.source_of-source.ensures,
      (
        source_walk (field_head_of c.args.field.now) (entries_in c.args.field.now) (fields_in c.args.field.now) no_more c.args.head.now c.args.place c.args.body.now
            (c.args.marks.now.start + c.args.marks.now.count) c.requires.may c.source_of-source.result c.source_of-source.ensures
            c.inside-first.result c.inside-first.ensures.node c.inside-first.ensures.buffer,
        omega (arith, c.requires.room, c.inside-first.ensures.node, length-set c.args.table.now c.args.place.node c.plus.result),
      ),
    ),
  ),
)

pub walk_column-returns-then-not-is_empty : goal.walk_column-returns-then-not-is_empty
walk_column-returns-then-not-is_empty t c =
    column_made c.args.field.now c.args.head.now c.args.place c.args.body.now (c.args.marks.now.start + c.args.marks.now.count) c.requires.may
    c.source_of-source.result c.source_of-source.ensures (spots_marked c.args.marks.now) c.count_marks-counted.result c.count_marks-counted.ensures
    c.args.table.now c.plus.result _ (omega (arith, c.requires.room)) c.plus.ensures c.inside-first.result c.inside-first.ensures.node c.inside-first.ensures.buffer
    c.walk_inside.new.table c.walk_inside.ensures

pub walk_column-returns-else-not-is_empty : goal.walk_column-returns-else-not-is_empty
walk_column-returns-else-not-is_empty t c =
    bare_made c.args.field.now c.args.head.now c.args.place c.args.body.now (c.args.marks.now.start + c.args.marks.now.count) c.requires.may
    c.source_of-source.result c.source_of-source.ensures (spots_marked c.args.marks.now) c.count_marks-counted.result c.count_marks-counted.ensures
    c.args.table.now c.plus.result _ (omega (arith, c.requires.room)) c.plus.ensures
    (no_fields_in c.args.field.now (no_items (out-Field c.args.field.now).children.items (vec_len (out-Field c.args.field.now).children) (out-Field c.args.field.now).children.ok.0 (sym c.is_empty.ensures ∙ c.if-not-is_empty.false)))
    (record { node = c.args.place.node + 1; buffer = c.args.place.buffer + buffers_in_layout (layout_named c.source_of-source.result.layout) }) refl refl

pub walk_inside-returns-then-not-is_whole : goal.walk_inside-returns-then-not-is_whole
walk_inside-returns-then-not-is_whole t c =
    c.walk_blocks.ensures
    ∙ ap (λ l. added_from c.args.first.node c.args.table.now (tally c.args.body.now (columns_there (fields_in c.args.field.now) c.args.head.now c.args.first) (source_spots c.args.source.now l)))
    (sym (run_marked c.args.marks.now c.if-not-marks.false))

pub walk_some-returns-else-marks-gt0-clause-adds : goal.walk_some-returns-else-marks-gt0-clause-adds
walk_some-returns-else-marks-gt0-clause-adds t c =
    let none : c.args.marks.now.count ≡ 0 = omega (arith, c.if-marks-gt0.false) in
    adds_none (fields_in c.args.field.now) c.args.head.now c.args.first c.args.body.now c.args.table.now (spots_marked c.args.marks.now) c.requires.room
    (ap (marked_from c.args.marks.now 0) none)

pub gather-walk_some-requires : goal.gather-walk_some-requires
gather-walk_some-requires t c = (
  subst (λ n. 16 * node_count (fields_in c.args.field.now) + 1 < n) c.decreases (omega arith),
  (
    (λ one. (c.join.ensures.gathered one).0),
    (
      subst (λ g. MayWalk (fields_in c.args.field.now) c.args.head.now c.args.first c.args.body.now (g.start + g.count)) (sym (c.join.ensures.same c.if-not-join.true))
          (walk_less (fields_in c.args.field.now) c.args.head.now c.args.first c.args.body.now (c.args.start + c.args.count)
          (c.args.gathered.now.start + c.args.gathered.now.count) (omega (arith, c.requires.behind)) c.requires.may),
      c.requires.room,
    ),
  ),
)

pub gather-returns-else-not-join-clause-adds : goal.gather-returns-else-not-join-clause-adds
gather-returns-else-not-join-clause-adds t c =
    with_gap (fields_in c.args.field.now) c.args.head.now c.args.first c.args.body.now c.args.table.now c.requires.room (spots_marked c.args.gathered.now)
    (blank_spots (c.args.gathered.now.start + c.args.gathered.now.count) (c.args.start - (c.args.gathered.now.start + c.args.gathered.now.count)))
    (run_spots c.args.start c.args.count) (spots_marked c.join.new.self)
    (listed_blank false (range_with_len (c.args.gathered.now.start + c.args.gathered.now.count) (c.args.start - (c.args.gathered.now.start + c.args.gathered.now.count))) refl)
    (c.join.ensures.spots c.if-not-join.false)

pub gather_alike-run_inside-start-requires-clause-reads : goal.gather_alike-run_inside-start-requires-clause-reads
gather_alike-run_inside-start-requires-clause-reads t c =
    reads_less c.args.source.now (c.args.marks.now.start + c.args.number + c.args.alike) (c.args.marks.now.start + c.args.marks.now.count)
    (omega (arith, c.requires.there)) c.requires.reads

pub gather_alike-run_inside-start-requires-clause-whole : goal.gather_alike-run_inside-start-requires-clause-whole
gather_alike-run_inside-start-requires-clause-whole t c =
    none_null_taken c.args.source.now.validity.now c.args.marks.now c.args.number c.args.alike c.requires.taken c.requires.there
    (λ k below. c.requires.alike k below ∙ sym c.is_marked.ensures ∙ c.if-is_marked.true)

pub gather_alike-gather-requires : goal.gather_alike-gather-requires
gather_alike-gather-requires t c = (
  subst (λ n. 16 * node_count (fields_in c.args.field.now) + 2 < n) c.decreases (omega arith),
  (
    c.requires.gathered,
    (
      omega (arith, c.requires.behind, c.run_inside-start.ensures.begin),
      (
        subst (MayWalk (fields_in c.args.field.now) c.args.head.now c.args.first c.args.body.now) (sym c.run_inside-start.ensures.end)
            (less_inside c.args.field.now c.args.source.now c.args.head.now c.args.first c.args.body.now (c.args.marks.now.start + c.args.marks.now.count)
            (c.args.marks.now.start + c.args.number + c.args.alike) (omega (arith, c.requires.there)) c.requires.reads c.requires.may),
        c.requires.room,
      ),
    ),
  ),
)

pub gather_alike-returns-then-is_marked-clause-adds : goal.gather_alike-returns-then-is_marked-clause-adds
gather_alike-returns-then-is_marked-clause-adds t c =
    let marked : (k : ℕ) → k < c.args.alike → mark_of c.args.marks.now (c.args.number + k) ≡ true =
    λ k below. c.requires.alike k below ∙ sym c.is_marked.ensures ∙ c.if-is_marked.true in
    c.gather.ensures.adds
    ∙ ap (counted_with (fields_in c.args.field.now) c.args.head.now c.args.first c.args.body.now
    (counted_with (fields_in c.args.field.now) c.args.head.now c.args.first c.args.body.now c.args.table.now (spots_marked c.args.gathered.now)))
    (sym c.run_inside-start.ensures.spots
    ∙ taken_inside c.args.source.now c.args.marks.now c.args.number c.args.alike
    (none_null_taken c.args.source.now.validity.now c.args.marks.now c.args.number c.args.alike c.requires.taken c.requires.there marked) marked)

pub gather_alike-returns-else-is_marked-clause-end : goal.gather_alike-returns-else-is_marked-clause-end
gather_alike-returns-else-is_marked-clause-end t c =
    omega (
      arith,
      c.requires.behind,
      end_less (layout_named c.args.source.now.layout) c.args.source.now.offsets.now (c.args.marks.now.start + c.args.number) (c.args.marks.now.start + c.args.number + c.args.alike)
          (omega arith)
          (reads_less c.args.source.now (c.args.marks.now.start + c.args.number + c.args.alike) (c.args.marks.now.start + c.args.marks.now.count)
          (omega (arith, c.requires.there)) c.requires.reads).reaches,
    )

pub gather_alike-returns-else-is_marked-clause-adds : goal.gather_alike-returns-else-is_marked-clause-adds
gather_alike-returns-else-is_marked-clause-adds t c =
    adds_blank (fields_in c.args.field.now) c.args.head.now c.args.first c.args.body.now
    (counted_with (fields_in c.args.field.now) c.args.head.now c.args.first c.args.body.now c.args.table.now (spots_marked c.args.gathered.now))
    (spots_inside (layout_named c.args.source.now.layout) c.args.source.now.offsets.now (marked_from c.args.marks.now c.args.number c.args.alike))
    (omega (arith, c.requires.room, with_long (fields_in c.args.field.now) c.args.head.now c.args.first c.args.body.now c.args.table.now c.requires.room (spots_marked c.args.gathered.now)))
    (unmarked_inside (layout_named c.args.source.now.layout) c.args.source.now.offsets.now c.args.marks.now c.args.number c.args.alike
    (λ k below. c.requires.alike k below ∙ sym c.is_marked.ensures ∙ c.if-is_marked.false))

pub walk_places-loop-done-preserved : goal.walk_places-loop-done-preserved
walk_places-loop-done-preserved t c =
    let next : c.args.marks.now.start + c.loop-done.done + c.alike-alike.result ≡ c.args.marks.now.start + (c.loop-done.done + c.alike-alike.result) = omega arith in
    record {
      few = c.alike-alike.ensures.within;
      gathered = c.gather_alike.ensures.gathered;
      behind =
          subst (λ n. c.gather_alike.new.gathered.start + c.gather_alike.new.gathered.count ≤ end_inside (layout_named c.args.source.now.layout) c.args.source.now.offsets.now n) next
          c.gather_alike.ensures.end;
      long = c.gather_alike.ensures.long ∙ c.loop-done.invariant.long;
      adds =
          c.gather_alike.ensures.adds
          ∙ ap (λ made. counted_with (fields_in c.args.field.now) c.args.head.now c.args.first c.args.body.now made
          (spots_inside (layout_named c.args.source.now.layout) c.args.source.now.offsets.now (marked_from c.args.marks.now c.loop-done.done c.alike-alike.result)))
          c.loop-done.invariant.adds
          ∙ with_both (fields_in c.args.field.now) c.args.head.now c.args.first c.args.body.now c.args.table.now c.requires.room
          (spots_inside (layout_named c.args.source.now.layout) c.args.source.now.offsets.now (marked_from c.args.marks.now 0 c.loop-done.done))
          (spots_inside (layout_named c.args.source.now.layout) c.args.source.now.offsets.now (marked_from c.args.marks.now c.loop-done.done c.alike-alike.result))
          (spots_inside (layout_named c.args.source.now.layout) c.args.source.now.offsets.now (marked_from c.args.marks.now 0 (c.loop-done.done + c.alike-alike.result)))
          (inside_more (layout_named c.args.source.now.layout) c.args.source.now.offsets.now c.args.marks.now c.loop-done.done c.alike-alike.result);
    }

pub walk_places-walk_some-requires : goal.walk_places-walk_some-requires
walk_places-walk_some-requires t c = (
  subst (λ n. 16 * node_count (fields_in c.args.field.now) + 1 < n) c.decreases (omega arith),
  (
    (λ one. (c.loop-done.invariant.gathered one).0),
    (
      walk_less (fields_in c.args.field.now) c.args.head.now c.args.first c.args.body.now
          (end_inside (layout_named c.args.source.now.layout) c.args.source.now.offsets.now (c.args.marks.now.start + c.loop-done.done))
          (c.loop-done.gathered.start + c.loop-done.gathered.count) c.loop-done.invariant.behind
          (less_inside c.args.field.now c.args.source.now c.args.head.now c.args.first c.args.body.now (c.args.marks.now.start + c.args.marks.now.count)
          (c.args.marks.now.start + c.loop-done.done) (omega (arith, c.loop-done.invariant.few)) c.requires.reads c.requires.may),
      omega (arith, c.requires.room, c.loop-done.invariant.long),
    ),
  ),
)

pub walk_inside-returns : goal.walk_inside-returns
walk_inside-returns t c =
    c.walk_some.ensures.adds
    ∙ ap (counted_with (fields_in c.args.field.now) c.args.head.now c.args.first c.args.body.now c.args.table.now)
    (c.run.ensures.spots ∙ sym c.run_inside-start.ensures.spots ∙ ap (source_spots c.args.source.now) (sym (run_marked c.args.marks.now c.if-not-marks.false)))
