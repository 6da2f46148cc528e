use Rattle.std.proofs.Common.{◌≡◌, refl, sym, ap, ◌∙◌, subst, ◌++◌, ◌+◌, [], map, length, arith}
use Rattle.std.specs.List.{flat_map}
use Rattle.byteorder.specs.Endian.{little_bytes}
use Rattle.batch_types.specs.Canonical.{offsets_of}
use Rattle.batch_types.specs.LaysOut.{values_limit}
use Rattle.batch_types.specs.Placed.{start_of}
use Rattle.batch_reading.specs.Gathered.{places_gathered}
use Rattle.batch_reading.specs.Planned.{elements_taken}
use Rattle.batch_reading.specs.Spots.{DoRun, places_of, places_ahead, spots_of}
use Rattle.batch_reading.proofs.Running.{within_all, there_of, step_ahead, all_taken, wanted_below, places_rise}
use Rattle.batch_reading.proofs.Spanning.{spans_step, ends_step}
use Rattle.batch_reading.proofs.Gathering.{ends_before, list_spots}
use Rattle.batch_reading.proofs.inside.picked_lists.Goals as goal

pub loop-number-init : goal.loop-number-init
loop-number-init c = record {
  ended = c.in_ok-put_offset.ensures.ok ∙ ap (λ l. l ++ little_bytes 4 0) c.new-ends.ensures.items;
  placed = ap (λ l. places_of l ++ []) c.new.ensures.items;
  kept = (
    0,
    0,
    places_rise 0 values_limit c.args.selection.now.runs.now (within_all c.requires.0 c.args.selection.now c.requires.2),
    record {
      closed = subst (DoRun 0 0) (sym c.new.ensures.items) (omega arith);
      opened = omega arith;
      counted = ap (λ l. length (places_of l ++ [])) (sym c.new.ensures.items);
    },
    omega arith,
  );
  ahead = refl;
  within = omega arith;
}

pub next_place-place-requires-clause-rising : goal.next_place-place-requires-clause-rising
next_place-place-requires-clause-rising c = within_all c.requires.0 c.args.selection.now c.requires.2

pub put_list-requires-clause-offsets : goal.put_list-requires-clause-offsets
put_list-requires-clause-offsets c =
    let step =
    step_ahead (places_of c.args.selection.now.runs.now) (places_ahead c.args.selection.now.runs.now c.loop-number.cursor)
    (places_ahead c.args.selection.now.runs.now c.next_place-place.new.cursor) c.loop-number.number c.next_place-place.result
    c.loop-number.invariant.ahead (there_of c.requires.0 c.args.selection.now c.requires.2 c.loop-number.number c.loop-number-test.true)
    c.next_place-place.ensures.next in (
      c.requires.0,
      c.requires.1,
      c.requires.3,
      wanted_below c.requires.0 c.args.selection.now c.requires.2 c.loop-number.number c.next_place-place.result c.loop-number-test.true step.0,
      c.requires.4,
    )

pub put_list-requires-clause-kept : goal.put_list-requires-clause-kept
put_list-requires-clause-kept c =
    let step =
    step_ahead (places_of c.args.selection.now.runs.now) (places_ahead c.args.selection.now.runs.now c.loop-number.cursor)
    (places_ahead c.args.selection.now.runs.now c.next_place-place.new.cursor) c.loop-number.number c.next_place-place.result
    c.loop-number.invariant.ahead (there_of c.requires.0 c.args.selection.now c.requires.2 c.loop-number.number c.loop-number-test.true)
    c.next_place-place.ensures.next in
    let kept = c.loop-number.invariant.kept in (
      kept.1,
      kept.3,
      (ends_before c.args.offsets.now c.requires.0 c.requires.1 kept.0 kept.1 c.loop-number.number c.next_place-place.result c.args.selection.now
          c.requires.2 c.requires.3 c.loop-number-test.true step.0 kept.2 kept.4).0,
    )

pub loop-number-preserved : goal.loop-number-preserved
loop-number-preserved c =
    let step =
    step_ahead (places_of c.args.selection.now.runs.now) (places_ahead c.args.selection.now.runs.now c.loop-number.cursor)
    (places_ahead c.args.selection.now.runs.now c.next_place-place.new.cursor) c.loop-number.number c.next_place-place.result
    c.loop-number.invariant.ahead (there_of c.requires.0 c.args.selection.now c.requires.2 c.loop-number.number c.loop-number-test.true)
    c.next_place-place.ensures.next in
    let kept = c.loop-number.invariant.kept in
    record {
      ended =
          ends_step (elements_taken c.args.offsets.now) c.requires.0 c.args.selection.now c.requires.2 c.loop-number.number
          c.next_place-place.result c.is_marked-taken.result c.loop-number.ends.items (places_gathered c.loop-number.spans)
          (elements_taken c.args.offsets.now (c.next_place-place.result, c.is_marked-taken.result))
          c.put_list.new.ends.items (places_gathered c.put_list.new.spans) c.loop-number-test.true step.0 c.is_marked-taken.ensures
          c.loop-number.invariant.ended c.loop-number.invariant.placed refl c.in_ok-put_list.ensures.places
          (c.in_ok-put_list.ensures.ends
          ∙ ap (λ l. c.loop-number.ends.items ++ little_bytes 4 (length l)) c.in_ok-put_list.ensures.places);
      placed =
          spans_step (elements_taken c.args.offsets.now) c.requires.0 c.args.selection.now c.requires.2 c.loop-number.number
          c.next_place-place.result c.is_marked-taken.result c.loop-number.ends.items (places_gathered c.loop-number.spans)
          (elements_taken c.args.offsets.now (c.next_place-place.result, c.is_marked-taken.result))
          c.put_list.new.ends.items (places_gathered c.put_list.new.spans) c.loop-number-test.true step.0 c.is_marked-taken.ensures
          c.loop-number.invariant.ended c.loop-number.invariant.placed refl c.in_ok-put_list.ensures.places
          (c.in_ok-put_list.ensures.ends
          ∙ ap (λ l. c.loop-number.ends.items ++ little_bytes 4 (length l)) c.in_ok-put_list.ensures.places);
      kept = (
        c.next_place-place.result + 1,
        start_of 4 c.args.offsets.now (c.next_place-place.result + 1),
        (ends_before c.args.offsets.now c.requires.0 c.requires.1 kept.0 kept.1 c.loop-number.number c.next_place-place.result c.args.selection.now
            c.requires.2 c.requires.3 c.loop-number-test.true step.0 kept.2 kept.4).1,
        c.in_ok-put_list.ensures.kept,
        omega arith,
      );
      ahead = step.1;
      within = c.next_place-place.ensures.within;
    }

pub returns-clause-offsets : goal.returns-clause-offsets
returns-clause-offsets c =
    c.loop-number.invariant.ended
    ∙ ap (λ spots. offsets_of 4 (map (λ spot. length (elements_taken c.args.offsets.now spot)) spots))
    (all_taken c.requires.0 c.args.selection.now c.requires.2 c.loop-number.number c.loop-number-test.false)

pub returns-clause-inside : goal.returns-clause-inside
returns-clause-inside c =
    let counted : c.loop-number.spans.count ≡ length (places_of c.close.new.runs.items) =
    c.loop-number.invariant.kept.3.counted ∙ ap length (sym c.in_ok-close.ensures.places) in
    record {
      rising = (c.loop-number.spans.last.start + c.loop-number.spans.last.count, c.in_ok-close.ensures.rising);
      counted = counted;
      marked = tt;
      spots_are =
          list_spots c.args.offsets.now (places_of c.close.new.runs.items) c.loop-number.spans.count (spots_of c.args.selection.now) counted
          (c.in_ok-close.ensures.places ∙ c.loop-number.invariant.placed
          ∙ ap (flat_map (elements_taken c.args.offsets.now))
          (all_taken c.requires.0 c.args.selection.now c.requires.2 c.loop-number.number c.loop-number-test.false));
    }
