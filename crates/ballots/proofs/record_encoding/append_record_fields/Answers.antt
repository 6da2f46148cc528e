use Rattle.std.proofs.Common.{[], ◌∷◌}
use Rattle.proto_fields.specs.Field.{Bytes}
use Rattle.ballots.specs.declared.record.numbers.TheConstants.{KIND, SLOT, ROUND, NODE, VALUE}
use Rattle.ballots.specs.Message.{number_field}
use Rattle.ballots.specs.AllFields.{all_record_fields_text}
use Rattle.ballots.proofs.Written.{four_written}
use Rattle.ballots.proofs.record_encoding.append_record_fields.Goals as goal

pub returns-clause-ok : goal.returns-clause-ok
unfolding all_record_fields_text
returns-clause-ok c =
    four_written c.args.out.now.items c.write_nonzero_varint.new.out.items c.write_nonzero_varint-2.new.out.items c.append_pair.new.out.items c.write_nonempty_bytes.new.out.items
    (number_field KIND c.args.kind ∷ [])
    (number_field SLOT c.args.slot ∷ [])
    (number_field ROUND c.args.ballot.0 ∷ number_field NODE c.args.ballot.1 ∷ [])
    (record { number = VALUE; held = Bytes c.args.value.now } ∷ [])
    c.in_ok-write_nonzero_varint.ensures.ok (rw c.from.ensures at c.in_ok-write_nonzero_varint-2.ensures.ok) c.in_ok-append_pair.ensures.ok c.in_ok-write_nonempty_bytes.ensures.ok
