use Rattle.std.proofs.Common.{List, drop}
use Rattle.batch_types.specs.Laid.{node_count}
use Rattle.batch_reading.specs.Readable.{forest_seen}
use Rattle.batch_reading.specs.Spots.{Spot}
use Rattle.batch_lengths.specs.Sizes.{MayMeasure, Measured}
use Rattle.batch_lengths.proofs.fields.+fields_left.Given as goal

abbrev pub decreases-fields_left : goal.decreases-fields_left
decreases-fields_left l = node_count (forest_seen l.fields.now)

abbrev pub invariant-loop-field : goal.invariant-loop-field
invariant-loop-field l =
    (spots : List Spot) → MayMeasure (forest_seen l.fn.fields) l.fn.head l.fn.place l.fn.body l.fn.count l.fn.table spots
    → Measured (forest_seen l.fn.fields) l.fn.head l.fn.place l.fn.body l.fn.count l.fn.table spots l.fn.most (forest_seen (drop l.field-index l.fn.fields)) l.next l.left
