-- What is told of a table: Apache Arrow, "Flight.proto", `FlightInfo` and `FlightEndpoint`. That all batches of a table have one
-- endpoint, whose ticket is for the latest version, is this service's own.
use Rattle.std.specs.Prelude.{◌≡◌, ℕ, List, [], ◌∷◌, length, Some, Result, Ok, Err}
use Rattle.proto_messages.specs.Descriptor.{Values}
use Rattle.proto_wire.specs.Flight.{info_descriptor, endpoint_descriptor, location_descriptor}
use Rattle.table_types.specs.Ticket.{TableVersion, IsTableVersion, ticket_text}
use Rattle.call_protocol.specs.declared.call_fault.CallFault.TheVariants as calls
use Rattle.client_calls.specs.declared.client_fault.ClientFault.{ClientFault}
use Rattle.client_calls.specs.declared.client_fault.ClientFault.TheVariants as faults
use Rattle.script_calls.specs.declared.told.Told.{Told}
use Rattle.script_calls.specs.declared.told.Told.TheVariants as told

abbrev pub version_of : List ℕ → ℕ → TableVersion
version_of table version = record { table = table; version = version }

-- the endpoint has the ticket for this version of the table, and so many locations
pub record IsEndpoint (table : List ℕ) (version locations : ℕ) (endpoint : Values endpoint_descriptor) : Type 0 where
  pub valid : IsTableVersion (version_of table version)
  pub uris : List (Values location_descriptor)
  pub counted : length uris ≡ locations
  pub is : endpoint ≡ (Some (ticket_text (version_of table version), tt), (uris, tt))

-- there is one endpoint, and that is such
pub record IsServedAt (table : List ℕ) (version locations : ℕ) (values : Values info_descriptor) : Type 0 where
  pub endpoint : Values endpoint_descriptor
  pub only : values.1.1.0 ≡ endpoint ∷ []
  pub served : IsEndpoint table version locations endpoint

-- ---- what reading it gives: tools of the contracts of private functions

-- the version and the number of locations, where there are such
abbrev pub Says : {V : Type 0} → (ℕ → ℕ → V → Type 0) → V → Result Told ClientFault → Type 0
Says IsSuch values (Ok (told.Info version locations)) = IsSuch version locations values
Says IsSuch values (Ok (told.Put version)) = ⊥
Says IsSuch values (Ok (told.Get frames)) = ⊥
Says IsSuch values (Ok (told.Status code words)) = ⊥
Says IsSuch values (Err faults.BadAnswer) = (version locations : ℕ) → ¬ IsSuch version locations values
Says IsSuch values (Err (faults.Status code words)) = ⊥
Says IsSuch values (Err (faults.Call calls.OutOfMemory)) = Unit {0}
Says IsSuch values (Err (faults.Call calls.Read)) = ⊥
Says IsSuch values (Err (faults.Call calls.Write)) = ⊥

abbrev pub EndpointSays : List ℕ → Values endpoint_descriptor → Result Told ClientFault → Type 0
EndpointSays table endpoint result = Says (IsEndpoint table) endpoint result

abbrev pub InfoSays : List ℕ → Values info_descriptor → Result Told ClientFault → Type 0
InfoSays table values result = Says (IsServedAt table) values result
