use Rattle.proto_fields.proofs.Fronts.{fields_same}
use Rattle.proto_fields.proofs.laws.fields_are_one.Goals as goal

pub returns : goal.returns
returns c = λ text fs gs a b. fields_same text gs fs b a
