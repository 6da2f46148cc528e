use Rattle.std.proofs.Common.{◌≡◌, List, ◌++◌, take, IsTrue}
use Rattle.ballots.specs.declared.record.Record.{Record}
use Rattle.stable_records.specs.Found.{FindsOnly, IsCutShort}
use Rattle.stable_records.specs.Moments.{AnyCrashLeaves}
use Rattle.stable_conformance.proofs.through_the_bound.keep_all.Given as goal

abbrev pub invariant-loop-next : goal.invariant-loop-next
invariant-loop-next g l = record {
  counted : g.S.Stable.faults l.store ≡ g.S.Stable.faults l.fn.store;
  kept : IsTrue g.S.Stable.tells → (records : List Record) → FindsOnly (g.S.Stable.finds l.fn.store) records
      → FindsOnly (g.S.Stable.finds l.store) (records ++ take l.next-index l.told);
  crash : IsTrue g.S.Stable.tells → (records : List Record) → FindsOnly (g.S.Stable.finds l.fn.store) records
      → AnyCrashLeaves g.S.Stable.moment g.S.Stable.finds_since l.fn.store l.store
      (IsCutShort records (take l.next-index l.told));
}
