use Rattle.std.proofs.Common.{◌≡◌, ℕ, ◌-◌, ◌≤◌}
use Rattle.std.specs.Prelude.{IsTrue}
use Rattle.cluster_folder.specs.Gates.{IsClosedGate, LeadsTo}
use Rattle.cluster_folder.proofs.gates.closed_gate.Given as goal

abbrev pub invariant-loop-next : goal.invariant-loop-next
invariant-loop-next g l = record {
  within : l.gate ≤ l.size - 1;
  counted : g.D.Disk.failures l.disk ≡ g.D.Disk.failures l.fn.disk;
  same : IsTrue g.D.Disk.tells → g.D.Disk.content l.disk ≡ g.D.Disk.content l.fn.disk;
  leads : IsTrue g.D.Disk.tells → (gate : ℕ) → IsClosedGate (g.D.Disk.content l.fn.disk) gate
      → LeadsTo (g.D.Disk.content l.fn.disk) l.gate gate;
}

abbrev pub decreases-loop-next : goal.decreases-loop-next
decreases-loop-next g l = l.size - l.gate
