use Rattle.std.proofs.Common.{◌≡◌, map, Ok}
use Rattle.resumed_nodes.proofs.hearing.all_ok.Given as goal

-- so many have heard the messages
abbrev pub invariant-loop-heard : goal.invariant-loop-heard
invariant-loop-heard g l = map (λ node. Ok node) l.nodes.items ≡ l.yielded
