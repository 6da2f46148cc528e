use Rattle.std.proofs.Common.{List}
use Rattle.node_worker.specs.Deeds.{Deed, Did}
use Rattle.node_worker.specs.Stepping.{TellsEach}
use Rattle.node_worker.proofs.telling.tell_each.Given as goal

abbrev pub invariant-loop-node : goal.invariant-loop-node
invariant-loop-node g l =
    (deeds : List (Deed g.row.P-Settled.Denot)) × Did g.P.Workplace.does l.initial.place deeds l.place × TellsEach l.node l.fn.number deeds
