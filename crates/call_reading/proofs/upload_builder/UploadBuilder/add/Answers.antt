use Rattle.std.proofs.Common.{arith, refl}
use Rattle.batch_columns.specs.Batches.{rows_of}
use Rattle.call_reading.proofs.Batches.{holds_over, way_kept}
use Rattle.call_reading.proofs.upload_builder.UploadBuilder.add.Goals as goal

pub returns-then-size-gt-SIZE_LIMIT-clause-holds : goal.returns-then-size-gt-SIZE_LIMIT-clause-holds
returns-then-size-gt-SIZE_LIMIT-clause-holds c =
    holds_over c.args.self.now (rows_of c.args.batch) c.size_with-size.result c.requires.on_its_way c.size_with-size.ensures c.give_up.new.self c.give_up.ensures
    (omega (arith, c.if-size-gt-SIZE_LIMIT.true))

pub returns-clause-on_its_way : goal.returns-clause-on_its_way
returns-clause-on_its_way c =
    way_kept c.args.self.now (rows_of c.args.batch) c.size_with-size.result c.requires.on_its_way c.size_with-size.ensures c.keep.new.self c.args.batch c.in_ok-keep.ensures.kept
    (omega (arith, c.if-size-gt-SIZE_LIMIT.false)) refl c.requires.of_schema c.requires.room
