use Rattle.proto_fields.proofs.Meanings.{number_meant-present, bytes_meant-present}
use Rattle.proto_fields.proofs.laws.defaults_are_left_out.Goals as goal

pub returns-clause-number : goal.returns-clause-number
returns-clause-number c = number_meant-present

pub returns-clause-bytes : goal.returns-clause-bytes
returns-clause-bytes c = bytes_meant-present
