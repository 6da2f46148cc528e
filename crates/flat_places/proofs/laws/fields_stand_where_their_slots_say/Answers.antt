use Rattle.std.proofs.Common.{arith}
use Rattle.flat_places.proofs.Fields.{field_there}
use Rattle.flat_places.proofs.laws.fields_stand_where_their_slots_say.Goals as goal

pub returns : goal.returns
returns c = λ text table vtable own_size n offset shown has read above.
    field_there text table n vtable own_size offset shown (omega arith) has read above
