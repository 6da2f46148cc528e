use Rattle.proto_messages.proofs.MessageFaults.{no_message_at_fault}
use Rattle.proto_messages.proofs.laws.faults_stand_apart.Goals as goal

pub returns : goal.returns
returns c = no_message_at_fault
