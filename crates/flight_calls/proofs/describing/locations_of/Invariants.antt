use Rattle.std.proofs.Common.{◌≡◌, ℕ, List, map, take, string_bytes}
use Rattle.proto_wire.specs.FlightValues.{location_values}
use Rattle.flight_calls.proofs.describing.locations_of.Given as goal

abbrev pub invariant-loop-uri : goal.invariant-loop-uri
invariant-loop-uri l =
    map location_values l.locations.items ≡ map (λ (uri : List ℕ). (uri, tt)) (map string_bytes (take l.uri-index l.uris))
