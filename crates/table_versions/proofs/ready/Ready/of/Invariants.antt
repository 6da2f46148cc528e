use Rattle.std.proofs.Common.{take}
use Rattle.table_versions.specs.Preparing.{AreReady}
use Rattle.table_versions.proofs.ready.Ready.of.Given as goal

abbrev pub invariant-loop-value : goal.invariant-loop-value
invariant-loop-value g l = AreReady (take l.value-index l.values) l.uploads.items
