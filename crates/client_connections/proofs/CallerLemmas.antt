-- What was opened and closed, one after the other: for the proofs of callers.
use Rattle.std.proofs.Common.{ℕ, List, [], ◌∷◌, ◌++◌, Option, Some, None, sym, ap, ◌∙◌, append_assoc, append-nil}
use Rattle.std.specs.declared.net.socket_addr.SocketAddrV4.{SocketAddrV4}
use Rattle.grpc_frames.specs.FrameFaults.{WhereKnown}
use Rattle.client_connections.specs.Events.{ConnectionEvent, opened, closed, Logs}
use Rattle.client_connections.specs.Conversations.{Converses}

pub logs_then : (old mid new : Option (List ConnectionEvent)) (xs ys : List ConnectionEvent) → Logs old xs mid → Logs mid ys new → Logs old (xs ++ ys) new
logs_then None mid new xs ys p q = tt
logs_then (Some old) None new xs ys p q = absurd p
logs_then (Some old) (Some mid) None xs ys p q = absurd q
logs_then (Some old) (Some mid) (Some new) xs ys p q = q ∙ ap (λ (l : List ConnectionEvent). l ++ ys) p ∙ append_assoc old xs ys

pub logs_nothing : (log : Option (List ConnectionEvent)) → Logs log [] log
logs_nothing None = tt
logs_nothing (Some log) = sym (append-nil log)

pub converses : (address : SocketAddrV4) (Sent Came : List ℕ → List ℕ → Type 0) (old mid new : Option (List ConnectionEvent)) (here there before after : Option (List ℕ))
    → Logs old (opened address here before ∷ []) mid → Logs mid (closed there after ∷ []) new → WhereKnown before after Sent → WhereKnown here there Came
    → Converses address Sent Came old new
converses address Sent Came old mid new here there before after p q sent came = record {
  before = before;
  after = after;
  here = here;
  there = there;
  log = logs_then old mid new (opened address here before ∷ []) (closed there after ∷ []) p q;
  sent = sent;
  came = came;
}
