use Rattle.proto_fields.proofs.Fronts.{front_takes, front_again}
use Rattle.proto_fields.proofs.laws.reading_is_encoding.Goals as goal

pub returns-clause-read : goal.returns-clause-read
returns-clause-read c = λ text f rest fits e. front_takes text (f, rest) fits e

pub returns-clause-encoded : goal.returns-clause-encoded
returns-clause-encoded c = front_again
