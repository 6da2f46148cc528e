use Rattle.std.proofs.Common.{map, take}
use Rattle.proto_wire.specs.FlightValues.{location_values}
use Rattle.client_command.proofs.Visited.{VisitedSome}
use Rattle.client_command.proofs.visiting.visit_all.Given as goal

abbrev pub invariant-loop-location : goal.invariant-loop-location
invariant-loop-location g l =
    VisitedSome l.ticket l.frames (map location_values (take l.location-index l.locations)) l.same (g.C.Connect.log l.initial.connect) (g.C.Connect.log l.connect)
    (g.E.Write.contents l.initial.err) (g.E.Write.contents l.err)
