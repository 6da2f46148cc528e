use Rattle.std.proofs.Common.{rules, arith}
use Rattle.std.proofs.lemmas.Grind.{common_steps}
use Rattle.proto_wire.proofs.flight.data.FlightDataRef.append.Goals as goal

pub returns-in_err-append_lent-clause-ok : goal.returns-in_err-append_lent-clause-ok
returns-in_err-append_lent-clause-ok c = search rules steps 300000

pub returns-in_err-append_lent-clause-err : goal.returns-in_err-append_lent-clause-err
returns-in_err-append_lent-clause-err c = search rules steps 300000

pub returns-in_err-append_lent-clause-fits : goal.returns-in_err-append_lent-clause-fits
returns-in_err-append_lent-clause-fits c = search rules steps 300000

pub returns-in_err-append_bytes-clause-ok : goal.returns-in_err-append_bytes-clause-ok
returns-in_err-append_bytes-clause-ok c = search rules steps 300000

pub returns-in_err-append_bytes-clause-err : goal.returns-in_err-append_bytes-clause-err
returns-in_err-append_bytes-clause-err c = grind (arith, common_steps) steps 600000

pub returns-in_err-append_bytes-clause-fits : goal.returns-in_err-append_bytes-clause-fits
returns-in_err-append_bytes-clause-fits c = search rules steps 300000

pub returns-in_err-append_bytes-2-clause-ok : goal.returns-in_err-append_bytes-2-clause-ok
returns-in_err-append_bytes-2-clause-ok c = grind (arith, common_steps) steps 600000

pub returns-in_err-append_bytes-2-clause-err : goal.returns-in_err-append_bytes-2-clause-err
returns-in_err-append_bytes-2-clause-err c = grind (arith, common_steps) steps 600000

pub returns-in_err-append_bytes-2-clause-fits : goal.returns-in_err-append_bytes-2-clause-fits
returns-in_err-append_bytes-2-clause-fits c = search rules steps 300000

pub returns-in_err-append_bytes-3-clause-ok : goal.returns-in_err-append_bytes-3-clause-ok
returns-in_err-append_bytes-3-clause-ok c = grind (arith, common_steps) steps 600000

pub returns-in_err-append_bytes-3-clause-err : goal.returns-in_err-append_bytes-3-clause-err
returns-in_err-append_bytes-3-clause-err c = grind (arith, common_steps) steps 600000

pub returns-in_err-append_bytes-3-clause-fits : goal.returns-in_err-append_bytes-3-clause-fits
returns-in_err-append_bytes-3-clause-fits c = grind (arith, common_steps) steps 600000

pub returns-clause-ok : goal.returns-clause-ok
returns-clause-ok c = grind (arith, common_steps) steps 600000

pub returns-clause-err : goal.returns-clause-err
returns-clause-err c = search rules steps 300000

pub returns-clause-fits : goal.returns-clause-fits
returns-clause-fits c = grind (arith, common_steps) steps 600000
