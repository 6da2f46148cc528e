use Rattle.std.proofs.Common.{◌≡◌, ◌↔◌, drop}
use Rattle.seats.proofs.messages.same_messages.Given as goal

-- what is left of the one is what is left of the other exactly where all is
abbrev pub invariant-loop-message : goal.invariant-loop-message
invariant-loop-message l = (drop l.message-index l.these ≡ l.left) ↔ (l.these ≡ l.fn.those)
