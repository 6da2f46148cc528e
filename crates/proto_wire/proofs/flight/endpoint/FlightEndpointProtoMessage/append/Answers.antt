use Rattle.std.proofs.Common.{rules, arith}
use Rattle.std.proofs.lemmas.Grind.{common_steps}
use Rattle.proto_wire.proofs.flight.endpoint.FlightEndpointProtoMessage.append.Goals as goal

pub returns-in_err-append_one-clause-ok : goal.returns-in_err-append_one-clause-ok
returns-in_err-append_one-clause-ok c = search rules steps 300000

pub returns-in_err-append_one-clause-err : goal.returns-in_err-append_one-clause-err
returns-in_err-append_one-clause-err c = search rules steps 300000

pub returns-in_err-append_one-clause-fits : goal.returns-in_err-append_one-clause-fits
returns-in_err-append_one-clause-fits c = search rules steps 300000

pub returns-in_err-append_messages-clause-ok : goal.returns-in_err-append_messages-clause-ok
returns-in_err-append_messages-clause-ok c = search rules steps 300000

pub returns-in_err-append_messages-clause-err : goal.returns-in_err-append_messages-clause-err
returns-in_err-append_messages-clause-err c = grind (arith, common_steps) steps 600000

pub returns-in_err-append_messages-clause-fits : goal.returns-in_err-append_messages-clause-fits
returns-in_err-append_messages-clause-fits c = search rules steps 300000

pub returns-clause-ok : goal.returns-clause-ok
returns-clause-ok c = grind (arith, common_steps) steps 600000

pub returns-clause-err : goal.returns-clause-err
returns-clause-err c = search rules steps 300000

pub returns-clause-fits : goal.returns-clause-fits
returns-clause-fits c = search rules steps 300000
