-- A ticket that was redeemed everywhere.
use Rattle.std.proofs.Common.{◌≡◌, inl, ℕ, Bool, List, Option, Vec, Result, Ok, subst}
use Rattle.std.specs.declared.alloc.Global.{Global}
use Rattle.std.specs.declared.net.socket_addr.SocketAddrV4.{SocketAddrV4}
use Rattle.proto_messages.specs.Descriptor.{Values}
use Rattle.proto_wire.specs.Flight.{location_descriptor}
use Rattle.table_types.specs.Ticket.{TableVersion}
use Rattle.client_calls.specs.Requests.{get_request}
use Rattle.client_calls.specs.Results.{GivesFrames, HasFrames}
use Rattle.client_connections.specs.Events.{ConnectionEvent}
use Rattle.client_command.specs.declared.fault.CommandFault.{CommandFault}
use Rattle.client_command.specs.Calls.{Calls}
use Rattle.client_command.specs.Visiting.{VisitsAll}
use Rattle.client_command.specs.Everywhere.{RedeemsEverywhere, outcome_of}

module _ (address : SocketAddrV4) (ticket : TableVersion) (locations : List (Values location_descriptor)) (frames : Vec ℕ Global) (items : List ℕ) (old mid new : Option (List ConnectionEvent))
    (before after : Option (List ℕ)) where
  pub redeemed : Calls address (get_request ticket) GivesFrames HasFrames (Ok frames) old mid → items ≡ frames.items → (visited : Result Bool CommandFault)
      → VisitsAll ticket items locations visited mid new before after → (result : Result (Vec ℕ Global) CommandFault) → result ≡ outcome_of frames visited
      → RedeemsEverywhere address ticket locations result old new before after
  redeemed gave same visited visits result is = inl (
    frames,
    mid,
    gave,
    visited,
    subst (λ (l : List ℕ). VisitsAll ticket l locations visited mid new before after) same visits,
    is,
  )
