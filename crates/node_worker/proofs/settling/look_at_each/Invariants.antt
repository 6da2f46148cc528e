use Rattle.std.proofs.Common.{List}
use Rattle.node_worker.specs.Deeds.{Deed, Did, ForEach}
use Rattle.node_worker.specs.Stepping.{LooksAt}
use Rattle.node_worker.proofs.settling.look_at_each.Given as goal

abbrev pub invariant-loop-at : goal.invariant-loop-at
invariant-loop-at g l =
    (deeds : List (Deed g.row.P-Settled.Denot)) × Did g.P.Workplace.does l.initial.place deeds l.place × ForEach LooksAt l.at deeds
