use Rattle.std.proofs.Common.{drop, arith}
use Rattle.header_types.specs.Views.{schema_of}
use Rattle.batch_reading.specs.Readable.{columns_there}
use Rattle.batch_lengths.specs.Along.{run_spots}
use Rattle.batch_lengths.specs.Sizes.{first_place}
use Rattle.batch_lengths.specs.Tally.{tally}
use Rattle.batch_lengths.proofs.Tallying.{table_begins, tally_long}
use Rattle.batch_lengths.proofs.length.counted.Goals as goal

pub returns : goal.returns
returns g c =
    table_begins g.row.N c.count_rows.new.table
    (tally c.args.body.now (columns_there (schema_of c.args.schema.now).fields c.args.head.now first_place) (run_spots 0 c.args.rows)) c.count_rows.ensures
    (omega (
      arith,
      c.requires.room,
      tally_long c.args.body.now (schema_of c.args.schema.now).fields (drop 0 c.args.head.now.nodes.items) (drop 0 c.args.head.now.buffers.items) (run_spots 0 c.args.rows),
    ))
