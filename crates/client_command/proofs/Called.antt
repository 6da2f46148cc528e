-- A call over a connection that was opened before it and closed behind it.
use Rattle.std.proofs.Common.{ℕ, List, [], ◌∷◌, Option, Ok, Err}
use Rattle.std.specs.declared.net.socket_addr.SocketAddrV4.{SocketAddrV4}
use Rattle.grpc_frames.specs.FrameFaults.{WhereKnown}
use Rattle.client_connections.specs.Events.{ConnectionEvent, opened, closed, Logs}
use Rattle.client_connections.proofs.CallerLemmas.{converses}
use Rattle.client_calls.specs.declared.client_fault.ClientFault.{ClientFault}
use Rattle.client_calls.specs.Answers.{Receives, Requests}
use Rattle.client_command.specs.declared.fault.CommandFault.TheVariants.{Call}
use Rattle.client_command.specs.Calls.{Calls}

module _ {T : Type 0} (address : SocketAddrV4) (request : List ℕ) (Gives : List (List ℕ) → T → Type 0) (IsResult : List (List ℕ) → Type 0) (old mid new : Option (List ConnectionEvent))
    (here there before after : Option (List ℕ)) (begun : Logs old (opened address here before ∷ []) mid) (ended : Logs mid (closed there after ∷ []) new) where
  pub called : (value : T) → WhereKnown before after (Requests (Ok value) request) → WhereKnown here there (Receives Gives IsResult (Ok value)) → Calls address request Gives IsResult (Ok value) old new
  called value sent came =
      converses address (Requests (Ok value) request) (Receives Gives IsResult (Ok value)) old mid new here there before after begun ended sent came

  pub called_in_vain : (fault : ClientFault) → WhereKnown before after (Requests {T = T} (Err fault) request) → WhereKnown here there (Receives Gives IsResult (Err fault))
      → Calls address request Gives IsResult (Err (Call fault)) old new
  called_in_vain fault sent came =
      converses address (Requests {T = T} (Err fault) request) (Receives Gives IsResult (Err fault)) old mid new here there before after begun ended sent came
