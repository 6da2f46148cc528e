use Rattle.std.proofs.Common.{◌≡◌, ◌+◌, List, ◌++◌, length}
use Rattle.node_parts.specs.ballots.specs.declared.message.Message.{Message as Sent}
use Rattle.journal.specs.Recalled.{IsEndOf}
use Rattle.journal.proofs.last_messages.LastMessages.extend.Given as goal

abbrev pub invariant-loop-message : goal.invariant-loop-message
invariant-loop-message l =
    (l.self.first + length l.self.messages.items ≡ l.fn.self.first + length l.fn.self.messages.items + length l.yielded)
    × ((sent : List Sent) → IsEndOf sent l.fn.self → IsEndOf (sent ++ l.yielded) l.self)
