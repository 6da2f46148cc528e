use Rattle.call_reading.proofs.NotRefused.{message_faultless, end_faultless}
use Rattle.call_reading.proofs.laws.memory_is_refused_where_no_fault_stands.Goals as goal

pub returns-clause-messages : goal.returns-clause-messages
returns-clause-messages c =
    message_faultless c.messages_are_one.ensures c.headers_are_one.ensures c.batches_are_one.ensures.batch c.descriptors_name_one.ensures.table
    c.descriptors_name_one.ensures.upload c.tickets_have_one_encoding.ensures.one c.faults_stand_apart.ensures c.faults_stand_apart-2.ensures c.refusals_are_right.ensures.laid
    c.descriptors_name_one.ensures.apart c.descriptors_name_one.ensures.upload_apart

pub returns-clause-ends : goal.returns-clause-ends
returns-clause-ends c =
    end_faultless c.messages_are_one.ensures c.headers_are_one.ensures c.batches_are_one.ensures.batch c.descriptors_name_one.ensures.table
    c.descriptors_name_one.ensures.upload c.tickets_have_one_encoding.ensures.one c.faults_stand_apart.ensures c.faults_stand_apart-2.ensures c.refusals_are_right.ensures.laid
    c.descriptors_name_one.ensures.apart c.descriptors_name_one.ensures.upload_apart
