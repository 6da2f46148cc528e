-- What serving one connection to one node of a cluster gives: a call is served (`flight_calls`) by what that node answers and
-- holds. Clusters are this service's own.
use Rattle.std.specs.Prelude.{◌≡◌, ℕ, true, false, List, [], Result}
use Rattle.cluster_backend.specs.parts.table_types.specs.Uploads.{Upload}
use Rattle.cluster_backend.specs.parts.node_events.specs.declared.event_result.EventResult.{EventResult}
use Rattle.cluster_backend.specs.seats.specs.declared.query.Query.{Query}
use Rattle.cluster_backend.specs.seats.specs.declared.fault.SeatFault.{SeatFault}
use Rattle.call_protocol.specs.declared.call_fault.CallFault.{CallFault}
use Rattle.flight_calls.specs.Serving.{Serves}
use Rattle.cluster_backend.specs.Backing.{Connected, StaysAt, MayAnswer}

-- a connection to this node that has handed over nothing yet
abbrev pub connected_to : ℕ → List (List ℕ) → Connected
connected_to node locations = record { node = node; locations = locations; handed = []; waits = false }

module _ (entered : ℕ → Query → EventResult → Type 0) (holds : ℕ → List Upload → Type 0) (fails : ℕ → SeatFault → Type 0) (leaves : Type 0) where
  abbrev pub ServesAt : Result (Unit {0}) CallFault → ℕ → List (List ℕ) → (text rest before after : List ℕ) → Type 0
  ServesAt result node locations text rest before after =
      (last : Connected)
      × Serves (MayAnswer entered holds fails leaves) (λ b. b.handed) (λ old sent new. StaysAt old new × (new.waits ≡ true)) StaysAt result
      (connected_to node locations) last text rest before after
