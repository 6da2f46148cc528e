use Rattle.std.proofs.Common.{◌∙◌, sym, ap}
use Rattle.batch_types.specs.Canonical.{field_or}
use Rattle.column_building.proofs.Gathered.{field_got}
use Rattle.column_building.proofs.slots.field_in.Goals as goal

pub returns-in-Some : goal.returns-in-Some
returns-in-Some c =
    λ blank.
    field_got c.in-Some.cells.now c.args.index c.get.result blank c.get.ensures.lookup
    ∙ ap (field_or blank c.args.index) (sym c.in-Some.ensures.some)
