-- The calls of the service and their paths: Apache Arrow, "Flight.proto", service `FlightService`; gRPC over HTTP2,
-- "Requests" (Path → "/" Service-Name "/" {method name}).
use Rattle.std.specs.Prelude.{◌≡◌, ◌≢◌, ◌⊎◌, ℕ, List, ◌++◌, codes}
use Rattle.call_protocol.specs.declared.method.Method.{Method}
use Rattle.call_protocol.specs.declared.method.Method.TheVariants as methods
use Rattle.call_protocol.specs.declared.refusal.CallRefusal.{CallRefusal}
use Rattle.call_protocol.specs.declared.refusal.CallRefusal.TheVariants as refusals

-- what stands in each path before the method's name
abbrev pub service_text : List ℕ
service_text = codes "/arrow.flight.protocol.FlightService/"

-- the names of the methods that are answered
abbrev pub method_name : Method → List ℕ
method_name methods.GetFlightInfo = codes "GetFlightInfo"
method_name methods.GetSchema = codes "GetSchema"
method_name methods.ListFlights = codes "ListFlights"
method_name methods.DoGet = codes "DoGet"
method_name methods.DoPut = codes "DoPut"

abbrev pub path_text : Method → List ℕ
path_text method = service_text ++ method_name method

-- the path is of another service, or of another method than these
abbrev pub PathFault : List ℕ → CallRefusal → Type 0
PathFault path refusal =
    (((name : List ℕ) → path ≢ service_text ++ name) × (refusal ≡ refusals.BadPath))
    ⊎ ((name : List ℕ) × (path ≡ service_text ++ name) × ((method : Method) → name ≢ method_name method) × (refusal ≡ refusals.NoCall))
