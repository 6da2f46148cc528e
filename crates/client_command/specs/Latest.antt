-- What is told of a table: Apache Arrow, "Flight.proto", `FlightInfo` and `FlightEndpoint`. That all batches of a table
-- have one endpoint, whose ticket is for the latest version, is this service's own.
use Rattle.std.specs.Prelude.{◌≡◌, ◌⊎◌, List, ℕ, [], ◌∷◌, Some, Result, Ok, Err}
use Rattle.proto_messages.specs.Descriptor.{Values}
use Rattle.proto_wire.specs.Flight.{info_descriptor, endpoint_descriptor, location_descriptor}
use Rattle.table_types.specs.Ticket.{TableVersion, IsTableVersion, ticket_text}
use Rattle.client_calls.specs.declared.client_fault.ClientFault.TheVariants.{BadAnswer}
use Rattle.client_command.specs.declared.fault.CommandFault.{CommandFault}
use Rattle.client_command.specs.declared.fault.CommandFault.TheVariants.{Call, OutOfMemory}

-- the endpoint has the ticket for this version, which is one of the table
pub record IsEndpoint (table : List ℕ) (ticket : TableVersion) (endpoint : Values endpoint_descriptor) : Type 0 where
  pub of_table : ticket.table ≡ table
  pub valid : IsTableVersion ticket
  pub locations : List (Values location_descriptor)
  pub is : endpoint ≡ (Some (ticket_text ticket, tt), (locations, tt))

-- there is one endpoint, and that is such
pub record IsLatest (table : List ℕ) (ticket : TableVersion) (values : Values info_descriptor) : Type 0 where
  pub endpoint : Values endpoint_descriptor
  pub only : values.1.1.0 ≡ endpoint ∷ []
  pub told : IsEndpoint table ticket endpoint

-- ---- what reading it gives

-- the ticket, where there is such
abbrev pub Says : {V : Type 0} → (TableVersion → V → Type 0) → V → Result TableVersion CommandFault → Type 0
Says IsSuch values (Ok ticket) = IsSuch ticket values
Says IsSuch values (Err fault) = (fault ≡ OutOfMemory) ⊎ ((fault ≡ Call BadAnswer) × ((ticket : TableVersion) → ¬ IsSuch ticket values))

abbrev pub EndpointSays : List ℕ → Values endpoint_descriptor → Result TableVersion CommandFault → Type 0
EndpointSays table endpoint result = Says (IsEndpoint table) endpoint result

abbrev pub LatestSays : List ℕ → Values info_descriptor → Result TableVersion CommandFault → Type 0
LatestSays table values result = Says (IsLatest table) values result
