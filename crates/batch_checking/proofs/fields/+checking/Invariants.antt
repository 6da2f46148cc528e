use Rattle.std.proofs.Common.{◌+◌, ◌*◌, drop}
use Rattle.header_types.specs.FieldView.{fields_in}
use Rattle.header_types.specs.Limits.{forest_depth}
use Rattle.batch_checking.specs.Columns.{forest_seen}
use Rattle.batch_checking.specs.Walk.{Came}
use Rattle.batch_checking.proofs.fields.+checking.Given as goal

abbrev pub decreases-check_fields : goal.decreases-check_fields
decreases-check_fields l = 2 * forest_depth (forest_seen l.fields.now)

abbrev pub decreases-check_inside : goal.decreases-check_inside
decreases-check_inside l = 2 * forest_depth (fields_in l.field.now) + 1

abbrev pub invariant-check_fields-loop-field : goal.invariant-check_fields-loop-field
invariant-check_fields-loop-field l =
    Came l.body l.head l.asked l.around (forest_seen l.fields) l.initial.place (forest_seen (drop l.field-index l.fields)) l.place
