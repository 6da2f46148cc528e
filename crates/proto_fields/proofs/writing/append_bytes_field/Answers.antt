use Rattle.std.proofs.Common.{rules, arith}
use Rattle.std.proofs.lemmas.Grind.{common_steps}
use Rattle.proto_fields.proofs.writing.append_bytes_field.Goals as goal

pub returns-in_err-append_number-clause-ok : goal.returns-in_err-append_number-clause-ok
returns-in_err-append_number-clause-ok c = search rules steps 300000

pub returns-in_err-append_number-clause-err : goal.returns-in_err-append_number-clause-err
returns-in_err-append_number-clause-err c = search rules steps 300000

pub returns-in_err-append_number-2-clause-ok : goal.returns-in_err-append_number-2-clause-ok
returns-in_err-append_number-2-clause-ok c = search rules steps 300000

pub returns-in_err-append_number-2-clause-err : goal.returns-in_err-append_number-2-clause-err
returns-in_err-append_number-2-clause-err c = grind (arith, common_steps) steps 600000

pub returns-in_err-extend_from_slice-clause-ok : goal.returns-in_err-extend_from_slice-clause-ok
returns-in_err-extend_from_slice-clause-ok c = search rules steps 300000

pub returns-in_err-extend_from_slice-clause-err : goal.returns-in_err-extend_from_slice-clause-err
returns-in_err-extend_from_slice-clause-err c = grind (arith, common_steps) steps 600000

pub returns-clause-ok : goal.returns-clause-ok
returns-clause-ok c = grind (arith, common_steps) steps 600000

pub returns-clause-err : goal.returns-clause-err
returns-clause-err c = grind (arith, common_steps) steps 600000
