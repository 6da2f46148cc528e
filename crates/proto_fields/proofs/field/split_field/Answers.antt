use Rattle.std.proofs.Common.{arith}
use Rattle.proto_fields.specs.Field.{field_at}
use Rattle.proto_fields.proofs.Fronts.{is_read, is_shorter, is_only, is_fault}
use Rattle.proto_fields.proofs.field.split_field.Goals as goal

pub returns-clause-read : goal.returns-clause-read
returns-clause-read c = is_read (λ x. (field_at x.0 x.1, x.2.now)) c.args.bytes.now (λ i. omega (arith, c.type_inv.bytes i)) c.split_front.result c.split_front.ensures

pub returns-clause-shorter : goal.returns-clause-shorter
returns-clause-shorter c = is_shorter (λ x. (field_at x.0 x.1, x.2.now)) c.args.bytes.now (λ i. omega (arith, c.type_inv.bytes i)) c.split_front.result c.split_front.ensures

pub returns-clause-only : goal.returns-clause-only
returns-clause-only c = is_only (λ x. (field_at x.0 x.1, x.2.now)) c.args.bytes.now (λ i. omega (arith, c.type_inv.bytes i)) c.split_front.result c.split_front.ensures

pub returns-clause-fault : goal.returns-clause-fault
returns-clause-fault c = is_fault (λ x. (field_at x.0 x.1, x.2.now)) c.args.bytes.now (λ i. omega (arith, c.type_inv.bytes i)) c.split_front.result c.split_front.ensures
