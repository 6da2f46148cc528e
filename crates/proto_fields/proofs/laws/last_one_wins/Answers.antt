use Rattle.proto_fields.proofs.Meanings.{number_meant-push, bytes_meant-push}
use Rattle.proto_fields.proofs.laws.last_one_wins.Goals as goal

pub returns-clause-number : goal.returns-clause-number
returns-clause-number c = number_meant-push

pub returns-clause-bytes : goal.returns-clause-bytes
returns-clause-bytes c = bytes_meant-push
