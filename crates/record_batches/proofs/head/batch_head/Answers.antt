use Rattle.std.proofs.Common.{◌≡◌, refl, pos, arith, w64, to_z}
use Rattle.std.proofs.lemmas.Int.{ints}
use Rattle.header_types.specs.Views.{schema_of}
use Rattle.record_batches.specs.declared.head.HeadWriter.{HeadWriter}
use Rattle.record_batches.proofs.Rooms.{written}
use Rattle.record_batches.proofs.Whole.{few_values, short_parts, end_written, head_written}
use Rattle.record_batches.proofs.head.batch_head.Goals as goal

pub put_columns-requires : goal.put_columns-requires
put_columns-requires c = record {
  few = few_values (schema_of c.args.schema.now) c.args.batch.now c.deref.result.now c.requires.of_schema c.deref.ensures.value;
  short = short_parts (schema_of c.args.schema.now) c.args.batch.now c.deref.result.now c.requires.of_schema c.deref.ensures.value c.requires.short;
}

pub overflow_cast-result-2 : goal.overflow_cast-result-2
overflow_cast-result-2 c =
    let begun : HeadWriter = record { nodes = c.new.result; buffers = c.new-2.result; end = 0 } in
    let end =
    end_written (schema_of c.args.schema.now) c.args.batch.now c.deref.result.now c.requires.of_schema c.deref.ensures.value
    begun c.put_columns.new.writer c.new.ensures.items c.new-2.ensures.items refl c.in_ok-put_columns.ensures.adds in
    omega (arith, ints, end, c.requires.short)

pub returns-clause-head : goal.returns-clause-head
returns-clause-head c =
    let begun : HeadWriter = record { nodes = c.new.result; buffers = c.new-2.result; end = 0 } in
    let end =
    end_written (schema_of c.args.schema.now) c.args.batch.now c.deref.result.now c.requires.of_schema c.deref.ensures.value
    begun c.put_columns.new.writer c.new.ensures.items c.new-2.ensures.items refl c.in_ok-put_columns.ensures.adds in
    let rows : to_z w64 c.args.batch.now.rows ≡ pos c.args.batch.now.rows = omega (arith, ints, c.requires.of_schema.rows_few) in
    let bytes : to_z w64 c.put_columns.new.writer.end ≡ pos c.put_columns.new.writer.end = omega (arith, ints, end, c.requires.short) in
    head_written (schema_of c.args.schema.now) c.args.batch.now c.deref.result.now c.requires.of_schema c.deref.ensures.value
    begun c.put_columns.new.writer c.new.ensures.items c.new-2.ensures.items refl c.in_ok-put_columns.ensures.adds
    (to_z w64 c.args.batch.now.rows) (to_z w64 c.put_columns.new.writer.end) rows bytes

pub returns-clause-room : goal.returns-clause-room
returns-clause-room c =
    written (schema_of c.args.schema.now) c.args.batch.now c.deref.result.now c.requires.of_schema
    c.deref.ensures.value c.in_ok-put_columns.ensures.sound
