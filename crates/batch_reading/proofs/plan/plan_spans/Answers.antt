use Rattle.std.proofs.Common.{ap, ◌∙◌, map, length}
use Rattle.std.specs.List.{flat_map}
use Rattle.batch_types.specs.Canonical.{offsets_of}
use Rattle.batch_columns.specs.Held.{layout_named}
use Rattle.batch_reading.specs.Spots.{spots_of}
use Rattle.batch_reading.specs.Taken.{span_taken}
use Rattle.batch_reading.proofs.Planning.{spread_planned}
use Rattle.batch_reading.proofs.plan.plan_spans.Goals as goal

pub returns : goal.returns
returns c =
    spread_planned (layout_named c.args.layout) c.requires.layout c.args.validity.now c.args.offsets.now c.args.values.now
    (spots_of c.args.selection.now) _ c.in_ok-validity.ensures.nulls c.in_ok-validity.ensures.validity
    (c.in_ok-offsets.ensures.offsets
    ∙ ap (λ taken. offsets_of 4 (map (λ spot. length (span_taken c.args.offsets.now c.args.values.now spot)) taken))
    c.in_ok-validity.ensures.taken)
    (c.in_ok-offsets.ensures.bytes
    ∙ ap (flat_map (span_taken c.args.offsets.now c.args.values.now)) c.in_ok-validity.ensures.taken)
    c.nothing_inside.ensures
