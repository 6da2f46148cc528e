use Rattle.std.proofs.Common.{length}
use Rattle.proto_messages.specs.Taking.{Takes}
use Rattle.proto_messages.proofs.Merging.{Merged}
use Rattle.proto_wire.specs.Flight.{data_descriptor}
use Rattle.flight_data.specs.Lent.{lent_values}
use Rattle.flight_data.proofs.lent.LentFlightData.merge.Given as goal

abbrev pub invariant-loop-rest : goal.invariant-loop-rest
invariant-loop-rest l =
    Merged (Takes data_descriptor) l.bytes l.rest (lent_values l.fn.self) (lent_values l.self)

abbrev pub decreases-loop-rest : goal.decreases-loop-rest
decreases-loop-rest l = length l.rest
