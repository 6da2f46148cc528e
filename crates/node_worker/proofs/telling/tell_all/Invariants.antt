use Rattle.std.proofs.Common.{◌+◌, ◌-◌, ◌≤◌, List}
use Rattle.node_worker.specs.Deeds.{Deed, Did, ForEach}
use Rattle.node_worker.specs.Stepping.{TellsEach}
use Rattle.node_worker.proofs.telling.tell_all.Given as goal

-- as far as the messages go: of none where the next is below the first
abbrev pub invariant-loop-number : goal.invariant-loop-number
invariant-loop-number g l =
    ((deeds : List (Deed g.row.P-Settled.Denot)) × Did g.P.Workplace.does l.initial.place deeds l.place
    × ForEach (λ k own. TellsEach g.P.Workplace.nodes (l.fn.sent.first + k) own) (l.number - l.fn.sent.first) deeds)
    × (l.number - l.fn.sent.first ≤ l.fn.sent.next - l.fn.sent.first)
