use Rattle.std.proofs.Common.{refl, rules}
use Rattle.proto_messages.proofs.Merging.{on_ok}
use Rattle.proto_messages.proofs.repeated.merge_one.Goals as goal

pub returns-in-Some-clause-taken : goal.returns-in-Some-clause-taken
returns-in-Some-clause-taken g c =
    rw c.in-Some.is (on_ok c.merge_embedded.result (λ taken. (g.M.ProtoMessage.values c.merge_embedded.new.message, refl, taken)) c.merge_embedded.ensures.taken)

pub returns-in_ok-read_embedded-in-None-clause-taken : goal.returns-in_ok-read_embedded-in-None-clause-taken
returns-in_ok-read_embedded-in-None-clause-taken g c = rw c.in-None.is (g.M.ProtoMessage.values c.in_ok-read_embedded-in-None.field-0, refl, c.in_ok-read_embedded-in-None.ensures.taken)

pub returns-in-Some-clause-fault : goal.returns-in-Some-clause-fault
returns-in-Some-clause-fault g c = search rules steps 300000
