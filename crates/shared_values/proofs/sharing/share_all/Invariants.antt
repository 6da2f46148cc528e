use Rattle.std.proofs.Common.{◌≡◌}
use Rattle.shared_values.proofs.sharing.share_all.Given as goal

abbrev pub invariant-loop-told : goal.invariant-loop-told
invariant-loop-told l = l.records ≡ l.initial.records
