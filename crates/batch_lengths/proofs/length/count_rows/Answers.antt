use Rattle.std.proofs.Common.{◌≡◌, ℕ, ◌≤◌, ap, arith}
use Rattle.header_types.specs.Views.{schema_of}
use Rattle.batch_lengths.specs.Along.{run_spots}
use Rattle.batch_lengths.specs.Sizes.{first_place}
use Rattle.batch_lengths.proofs.Adding.{adds_none}
use Rattle.batch_lengths.proofs.length.count_rows.Goals as goal

zero_rows : (n : ℕ) → n ≤ 0 → n ≡ 0
zero_rows n none = omega (arith, none)

pub returns-else-rows-gt0 : goal.returns-else-rows-gt0
returns-else-rows-gt0 c =
    adds_none (schema_of c.args.schema.now).fields c.args.head.now first_place c.args.body.now c.args.table.now (run_spots 0 c.args.rows) (omega (arith, c.requires.room))
    (ap (run_spots 0) (zero_rows c.args.rows c.if-rows-gt0.false))
