-- What is opened and closed: connections to servers, each with what was left to be read and what had been written at
-- that moment, where that is known.
use Rattle.std.specs.Prelude.{◌≡◌, ℕ, List, ◌++◌, Option, Some, None}
use Rattle.std.specs.declared.net.socket_addr.SocketAddrV4.{SocketAddrV4}

-- there was no connection to this address; or there was one, with this to be read and this written; or one was closed
-- with this left to be read and this written
pub data ConnectionEvent : Type 0 where
  refused : SocketAddrV4 → ConnectionEvent
  opened : SocketAddrV4 → Option (List ℕ) → Option (List ℕ) → ConnectionEvent
  closed : Option (List ℕ) → Option (List ℕ) → ConnectionEvent

-- a log that is known grows by these events
abbrev pub Logs : Option (List ConnectionEvent) → List ConnectionEvent → Option (List ConnectionEvent) → Type 0
Logs None events new = Unit {0}
Logs (Some old) events None = ⊥
Logs (Some old) events (Some new) = new ≡ old ++ events
