use Rattle.std.proofs.Common.{refl}
use Rattle.std.proofs.lemmas.Bool.{false≢true}
use Rattle.header_types.specs.Views.{schema_of}
use Rattle.call_reading.proofs.Batches.{adds_as, room_as, further_faults}
use Rattle.call_reading.proofs.upload_builder.addition_of.Goals as goal

pub returns-clause-added : goal.returns-clause-added
returns-clause-added c =
    adds_as (schema_of c.args.schema.now) c.args.wanted c.args.message.now c.in_ok-data.data.data_header.now c.in_ok-data.data.data_body.now _ c.in_ok-data.ensures.read
    refl refl c.batch_in.result c.batch_in.ensures.batch

pub returns-clause-room : goal.returns-clause-room
returns-clause-room c = room_as c.args.count c.batch_in.result c.batch_in.ensures.room

pub returns-clause-fault : goal.returns-clause-fault
returns-clause-fault c =
    further_faults (schema_of c.args.schema.now) c.args.count c.args.message.now c.in_ok-data.data.data_header.now c.in_ok-data.data.data_body.now _
    c.in_ok-data.ensures.read refl refl (λ blank. false≢true (c.if-is_blank.ensures.1 blank))
    c.batch_in.result c.batch_in.ensures.fault
