use Rattle.std.proofs.Common.{rules, arith}
use Rattle.std.proofs.lemmas.Grind.{common_steps}
use Rattle.proto_wire.proofs.flight.info.FlightInfoProtoMessage.take.Goals as goal

pub returns-in_err-self-in-1-clause-taken : goal.returns-in_err-self-in-1-clause-taken
returns-in_err-self-in-1-clause-taken c = search rules steps 300000

pub returns-in_err-self-in-1-clause-fault : goal.returns-in_err-self-in-1-clause-fault
returns-in_err-self-in-1-clause-fault c = search rules steps 300000

pub returns-in_err-merge_one-in-2-clause-taken : goal.returns-in_err-merge_one-in-2-clause-taken
returns-in_err-merge_one-in-2-clause-taken c = search rules steps 300000

pub returns-in_err-self-in-4-clause-taken : goal.returns-in_err-self-in-4-clause-taken
returns-in_err-self-in-4-clause-taken c = search rules steps 300000

pub returns-in_err-self-in-4-clause-fault : goal.returns-in_err-self-in-4-clause-fault
returns-in_err-self-in-4-clause-fault c = search rules steps 300000

pub returns-in_err-self-in-5-clause-taken : goal.returns-in_err-self-in-5-clause-taken
returns-in_err-self-in-5-clause-taken c = search rules steps 300000

pub returns-in_err-self-in-5-clause-fault : goal.returns-in_err-self-in-5-clause-fault
returns-in_err-self-in-5-clause-fault c = search rules steps 300000

pub returns-in_err-self-in-6-clause-taken : goal.returns-in_err-self-in-6-clause-taken
returns-in_err-self-in-6-clause-taken c = search rules steps 300000

pub returns-in_err-self-in-6-clause-fault : goal.returns-in_err-self-in-6-clause-fault
returns-in_err-self-in-6-clause-fault c = search rules steps 300000

pub returns-in_ok-self-in-1-clause-taken : goal.returns-in_ok-self-in-1-clause-taken
returns-in_ok-self-in-1-clause-taken c = grind (arith, common_steps) steps 600000

pub returns-in_ok-self-in-1-clause-fault : goal.returns-in_ok-self-in-1-clause-fault
returns-in_ok-self-in-1-clause-fault c = search rules steps 300000

pub returns-in_ok-merge_one-in-2-clause-taken : goal.returns-in_ok-merge_one-in-2-clause-taken
returns-in_ok-merge_one-in-2-clause-taken c = search rules steps 300000

pub returns-in_ok-merge_one-in-2-clause-fault : goal.returns-in_ok-merge_one-in-2-clause-fault
returns-in_ok-merge_one-in-2-clause-fault c = search rules steps 300000

pub returns-in_ok-self-in-4-clause-taken : goal.returns-in_ok-self-in-4-clause-taken
returns-in_ok-self-in-4-clause-taken c = grind (arith, common_steps) steps 600000

pub returns-in_ok-self-in-4-clause-fault : goal.returns-in_ok-self-in-4-clause-fault
returns-in_ok-self-in-4-clause-fault c = search rules steps 300000

pub returns-in_ok-self-in-5-clause-taken : goal.returns-in_ok-self-in-5-clause-taken
returns-in_ok-self-in-5-clause-taken c = grind (arith, common_steps) steps 600000

pub returns-in_ok-self-in-5-clause-fault : goal.returns-in_ok-self-in-5-clause-fault
returns-in_ok-self-in-5-clause-fault c = search rules steps 300000

pub returns-in_ok-self-in-6-clause-taken : goal.returns-in_ok-self-in-6-clause-taken
returns-in_ok-self-in-6-clause-taken c = search rules steps 300000

pub returns-in_ok-self-in-6-clause-fault : goal.returns-in_ok-self-in-6-clause-fault
returns-in_ok-self-in-6-clause-fault c = search rules steps 300000

pub returns-in_default-clause-taken : goal.returns-in_default-clause-taken
returns-in_default-clause-taken c = search rules steps 300000

pub returns-in_default-clause-fault : goal.returns-in_default-clause-fault
returns-in_default-clause-fault c = search rules steps 300000
