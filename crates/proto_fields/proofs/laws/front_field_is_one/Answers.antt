use Rattle.proto_fields.proofs.Fronts.{front_is_one}
use Rattle.proto_fields.proofs.laws.front_field_is_one.Goals as goal

pub returns : goal.returns
returns c = front_is_one
