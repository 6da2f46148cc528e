-- What went over one connection.
use Rattle.std.specs.Prelude.{ℕ, List, [], ◌∷◌, Option}
use Rattle.std.specs.declared.net.socket_addr.SocketAddrV4.{SocketAddrV4}
use Rattle.grpc_frames.specs.FrameFaults.{WhereKnown}
use Rattle.client_connections.specs.Events.{ConnectionEvent, opened, closed, Logs}

-- One connection to the address was opened and closed. Over it this was sent, of what had been written before and
-- after; and this came, of what was to be read before and was left after.
pub record Converses (address : SocketAddrV4) (Sent Came : List ℕ → List ℕ → Type 0) (old new : Option (List ConnectionEvent)) : Type 0 where
  pub before : Option (List ℕ)
  pub after : Option (List ℕ)
  pub here : Option (List ℕ)
  pub there : Option (List ℕ)
  pub log : Logs old (opened address here before ∷ closed there after ∷ []) new
  pub sent : WhereKnown before after Sent
  pub came : WhereKnown here there Came
