use Rattle.std.proofs.Common.{arith}
use Rattle.proto_fields.proofs.Numbers.{is_number, is_only_number, is_number_fault}
use Rattle.proto_fields.proofs.varint.split_varint.Goals as goal

pub returns-clause-read : goal.returns-clause-read
returns-clause-read c = is_number (λ x. (x.0, x.1.now)) c.args.bytes.now (λ i. omega (arith, c.type_inv.bytes i)) c.split_number.result c.split_number.ensures

pub returns-clause-only : goal.returns-clause-only
returns-clause-only c = is_only_number (λ x. (x.0, x.1.now)) c.args.bytes.now (λ i. omega (arith, c.type_inv.bytes i)) c.split_number.result c.split_number.ensures

pub returns-clause-fault : goal.returns-clause-fault
returns-clause-fault c = is_number_fault (λ x. (x.0, x.1.now)) c.args.bytes.now (λ i. omega (arith, c.type_inv.bytes i)) c.split_number.result c.split_number.ensures
