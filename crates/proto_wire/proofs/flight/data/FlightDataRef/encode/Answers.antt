use Rattle.std.proofs.Common.{rules}
use Rattle.proto_messages.specs.Canonical.{RisesFrom}
use Rattle.proto_wire.specs.Flight.{data_descriptor}
use Rattle.proto_wire.specs.FlightValues.{data_ref_values}
use Rattle.proto_wire.proofs.flight.data.FlightDataRef.encode.Goals as goal

rises : RisesFrom 0 data_descriptor
rises = search rules

pub returns-in-Ok-clause-means : goal.returns-in-Ok-clause-means
returns-in-Ok-clause-means c =
    c.canonical_messages_are_messages.ensures data_descriptor (data_ref_values c.args.self.now) rises c.in-Ok.ensures.fits
