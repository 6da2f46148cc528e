use Rattle.proto_messages.specs.Descriptor.{FieldIsAtFault}
use Rattle.proto_messages.proofs.Merging.{on_ok}
use Rattle.proto_messages.proofs.Sound.{sound_embedded}
use Rattle.proto_messages.proofs.repeated.check_embedded.Goals as goal

pub returns-in-Bytes-clause-ok : goal.returns-in-Bytes-clause-ok
returns-in-Bytes-clause-ok g c =
    rw c.in-Bytes.is (on_ok c.check.result (sound_embedded (FieldIsAtFault g.M.ProtoMessage.descriptor) c.in-Bytes.embedded.now) c.check.ensures.ok)
