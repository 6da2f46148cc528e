use Rattle.std.proofs.Common.{ap, ◌∙◌, map, length}
use Rattle.std.specs.List.{flat_map}
use Rattle.batch_types.specs.Canonical.{offsets_of}
use Rattle.batch_reading.specs.Spots.{places_of, places_ahead}
use Rattle.batch_reading.specs.Taken.{span_taken}
use Rattle.batch_reading.proofs.Running.{within_all, there_of, step_ahead, all_taken, wanted_below}
use Rattle.batch_reading.proofs.Spanning.{spans_step, ends_step}
use Rattle.batch_reading.proofs.spans.picked_spans.Goals as goal

pub next_place-place-requires-clause-rising : goal.next_place-place-requires-clause-rising
next_place-place-requires-clause-rising c = within_all c.requires.0 c.args.selection.now c.requires.1

pub span_or-more-requires : goal.span_or-more-requires
span_or-more-requires c =
    let step =
    step_ahead (places_of c.args.selection.now.runs.now) (places_ahead c.args.selection.now.runs.now c.loop-number.cursor)
    (places_ahead c.args.selection.now.runs.now c.next_place-place.new.cursor) c.loop-number.number c.next_place-place.result
    c.loop-number.invariant.ahead (there_of c.requires.0 c.args.selection.now c.requires.1 c.loop-number.number c.loop-number-test.true)
    c.next_place-place.ensures.next in (
      c.requires.0,
      c.requires.2,
      wanted_below c.requires.0 c.args.selection.now c.requires.1 c.loop-number.number c.next_place-place.result c.loop-number-test.true step.0,
    )

pub loop-number-preserved : goal.loop-number-preserved
loop-number-preserved c =
    let step =
    step_ahead (places_of c.args.selection.now.runs.now) (places_ahead c.args.selection.now.runs.now c.loop-number.cursor)
    (places_ahead c.args.selection.now.runs.now c.next_place-place.new.cursor) c.loop-number.number c.next_place-place.result
    c.loop-number.invariant.ahead (there_of c.requires.0 c.args.selection.now c.requires.1 c.loop-number.number c.loop-number-test.true)
    c.next_place-place.ensures.next in
    record {
      ended =
          ends_step (span_taken c.args.offsets.now c.args.bytes.now) c.requires.0 c.args.selection.now c.requires.1 c.loop-number.number
          c.next_place-place.result c.is_marked-taken.result c.loop-number.ends.items c.loop-number.spans.items c.span_or-more.result.now
          c.append_variable.new.offsets.items c.append_variable.new.bytes.items c.loop-number-test.true step.0 c.is_marked-taken.ensures
          c.loop-number.invariant.ended c.loop-number.invariant.spanned c.span_or-more.ensures c.in_ok-append_variable.ensures.bytes
          c.in_ok-append_variable.ensures.offsets;
      spanned =
          spans_step (span_taken c.args.offsets.now c.args.bytes.now) c.requires.0 c.args.selection.now c.requires.1 c.loop-number.number
          c.next_place-place.result c.is_marked-taken.result c.loop-number.ends.items c.loop-number.spans.items c.span_or-more.result.now
          c.append_variable.new.offsets.items c.append_variable.new.bytes.items c.loop-number-test.true step.0 c.is_marked-taken.ensures
          c.loop-number.invariant.ended c.loop-number.invariant.spanned c.span_or-more.ensures c.in_ok-append_variable.ensures.bytes
          c.in_ok-append_variable.ensures.offsets;
      ahead = step.1;
      within = c.next_place-place.ensures.within;
    }

pub returns-clause-offsets : goal.returns-clause-offsets
returns-clause-offsets c =
    c.loop-number.invariant.ended
    ∙ ap (λ spots. offsets_of 4 (map (λ spot. length (span_taken c.args.offsets.now c.args.bytes.now spot)) spots))
    (all_taken c.requires.0 c.args.selection.now c.requires.1 c.loop-number.number c.loop-number-test.false)

pub returns-clause-bytes : goal.returns-clause-bytes
returns-clause-bytes c =
    c.loop-number.invariant.spanned
    ∙ ap (flat_map (span_taken c.args.offsets.now c.args.bytes.now))
    (all_taken c.requires.0 c.args.selection.now c.requires.1 c.loop-number.number c.loop-number-test.false)
