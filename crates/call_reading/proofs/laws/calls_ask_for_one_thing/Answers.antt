use Rattle.call_reading.proofs.Apart.{one_call}
use Rattle.call_reading.proofs.laws.calls_ask_for_one_thing.Goals as goal

pub returns : goal.returns
returns c =
    one_call c.messages_are_one.ensures c.headers_are_one.ensures c.batches_are_one.ensures.batch c.descriptors_name_one.ensures.table c.descriptors_name_one.ensures.upload
    c.tickets_have_one_encoding.ensures.one c.no_frame_begins_another.ensures c.paths_are_one.ensures.one
