use Rattle.std.proofs.Common.{◌≡◌, drop}
use Rattle.disk_records.specs.MemoryDisk.{crashed}
use Rattle.disk_records.proofs.memory_disk.left_by.Given as goal

abbrev pub invariant-loop-call : goal.invariant-loop-call
invariant-loop-call l = crashed l.pick l.content.items l.left.items (drop l.call-index l.calls) ≡ crashed l.pick
    l.first l.first l.calls
