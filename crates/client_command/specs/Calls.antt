-- A call over a connection of its own: its request goes out, and what comes back is told. A request and its answer are
-- those of `client_calls`, and a connection is that of `client_connections`.
use Rattle.std.specs.Prelude.{ℕ, List, [], ◌∷◌, Option, Result, Ok, Err}
use Rattle.std.specs.declared.net.socket_addr.SocketAddrV4.{SocketAddrV4}
use Rattle.client_connections.specs.Events.{ConnectionEvent, refused, Logs}
use Rattle.client_connections.specs.Conversations.{Converses}
use Rattle.client_calls.specs.Answers.{Receives, Requests}
use Rattle.client_command.specs.declared.fault.CommandFault.{CommandFault}
use Rattle.client_command.specs.declared.fault.CommandFault.TheVariants as faults

-- what was told by the server at this address of this request, whose answer gives a value where it is a result; or
-- there was no connection to it
abbrev pub Calls : {T : Type 0} → SocketAddrV4 → List ℕ → (List (List ℕ) → T → Type 0) → (List (List ℕ) → Type 0) → Result T CommandFault → Option (List ConnectionEvent)
    → Option (List ConnectionEvent) → Type 0
Calls address request Gives IsResult (Ok value) old new =
    Converses address (Requests (Ok value) request) (Receives Gives IsResult (Ok value)) old new
Calls {T = T} address request Gives IsResult (Err (faults.Call fault)) old new =
    Converses address (Requests {T = T} (Err fault) request) (Receives Gives IsResult (Err fault)) old new
Calls address request Gives IsResult (Err (faults.Connect fault)) old new = Logs old (refused address ∷ []) new
Calls address request Gives IsResult (Err faults.BadAddress) old new = ⊥
Calls address request Gives IsResult (Err faults.BadId) old new = ⊥
Calls address request Gives IsResult (Err faults.BadTable) old new = ⊥
Calls address request Gives IsResult (Err (faults.Rows fault)) old new = ⊥
Calls address request Gives IsResult (Err (faults.Upload fault)) old new = ⊥
Calls address request Gives IsResult (Err faults.Io) old new = ⊥
Calls address request Gives IsResult (Err faults.OutOfMemory) old new = ⊥
Calls address request Gives IsResult (Err faults.BadLocation) old new = ⊥
Calls address request Gives IsResult (Err faults.Differs) old new = ⊥
