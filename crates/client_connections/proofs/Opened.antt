-- Logs that are known.
use Rattle.std.proofs.Common.{◌≡◌, List, ◌++◌, Option, Some, None, ap}
use Rattle.client_connections.specs.Events.{ConnectionEvent, Logs}

pub log_is : (old events : List ConnectionEvent) (new : Option (List ConnectionEvent)) → Logs (Some old) events new → new ≡ Some (old ++ events)
log_is old events None grows = absurd grows
log_is old events (Some new) grows = ap (λ (l : List ConnectionEvent). Some l) grows
