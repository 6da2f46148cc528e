use Rattle.call_reading.proofs.NotRefused.{not_refused}
use Rattle.call_reading.proofs.laws.calls_are_not_refused.Goals as goal

pub returns : goal.returns
returns c =
    not_refused c.messages_are_one.ensures c.headers_are_one.ensures c.batches_are_one.ensures.batch c.descriptors_name_one.ensures.table c.descriptors_name_one.ensures.upload
    c.tickets_have_one_encoding.ensures.one c.faults_stand_apart-2.ensures c.faults_stand_apart-3.ensures c.refusals_are_right.ensures.laid c.descriptors_name_one.ensures.apart
    c.descriptors_name_one.ensures.upload_apart c.no_frame_begins_another.ensures c.faults_stand_apart.ensures.frame c.paths_are_one.ensures.one c.paths_are_one.ensures.apart
