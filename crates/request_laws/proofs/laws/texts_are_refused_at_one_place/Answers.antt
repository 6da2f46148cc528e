use Rattle.std.proofs.Common.{inl, inr}
use Rattle.call_reading.proofs.Apart.{one_upload}
use Rattle.request_laws.proofs.Agreeing.{messages_agree, some_differ}
use Rattle.request_laws.proofs.Places.{one_place}
use Rattle.request_laws.proofs.laws.texts_are_refused_at_one_place.Goals as goal

pub returns-clause-place : goal.returns-clause-place
returns-clause-place c = λ text a b x y p q.
    elim (one_place c.no_frame_begins_another.ensures c.readings_are_one.ensures c.memory_is_refused_where_no_fault_stands.ensures.messages
    (messages_agree c.messages_are_one.ensures c.faults_stand_apart.ensures c.headers_are_one.ensures c.faults_stand_apart-2.ensures c.batches_are_one.ensures.fault
    c.batches_are_one.ensures.apart
    (one_upload c.messages_are_one.ensures c.headers_are_one.ensures c.batches_are_one.ensures.batch c.descriptors_name_one.ensures.table
    c.descriptors_name_one.ensures.upload c.tickets_have_one_encoding.ensures.one))
    c.paths_are_one.ensures.one c.paths_are_one.ensures.apart text a b x y p q) [
      | inl machine ↦ inl machine
      | inr other ↦ inr (elim other [ inl machine ↦ inl machine | inr both ↦ inr both.0 ])
    ]

pub returns-clause-fault : goal.returns-clause-fault
returns-clause-fault c = λ text a b x y p q.
    elim (one_place c.no_frame_begins_another.ensures c.readings_are_one.ensures c.memory_is_refused_where_no_fault_stands.ensures.messages
    (messages_agree c.messages_are_one.ensures c.faults_stand_apart.ensures c.headers_are_one.ensures c.faults_stand_apart-2.ensures c.batches_are_one.ensures.fault
    c.batches_are_one.ensures.apart
    (one_upload c.messages_are_one.ensures c.headers_are_one.ensures c.batches_are_one.ensures.batch c.descriptors_name_one.ensures.table
    c.descriptors_name_one.ensures.upload c.tickets_have_one_encoding.ensures.one))
    c.paths_are_one.ensures.one c.paths_are_one.ensures.apart text a b x y p q) [
      | inl machine ↦ inl machine
      | inr other ↦ inr (elim other [ inl machine ↦ inl machine | inr both ↦ inr both.1 ])
    ]

pub returns-clause-apart : goal.returns-clause-apart
returns-clause-apart c = some_differ
