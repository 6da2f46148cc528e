use Rattle.std.proofs.Common.{ap, ◌∙◌, []}
use Rattle.batch_types.specs.Layouts.{fixed_size_list_layout}
use Rattle.batch_reading.specs.Spots.{spots_of}
use Rattle.batch_reading.specs.Planned.{spots_inside}
use Rattle.batch_reading.proofs.Planning.{as_spots, none_in_empty}
use Rattle.batch_reading.proofs.plan.sized_inside.Goals as goal

pub returns-then-size-eq0 : goal.returns-then-size-eq0
returns-then-size-eq0 c =
    as_spots [] (spots_inside (fixed_size_list_layout c.args.size) [] (spots_of c.args.selection.now)) c.nothing_inside.result
    c.nothing_inside.ensures
    (ap (λ n. spots_inside (fixed_size_list_layout n) [] (spots_of c.args.selection.now)) c.if-size-eq0.true
    ∙ none_in_empty (spots_of c.args.selection.now))
