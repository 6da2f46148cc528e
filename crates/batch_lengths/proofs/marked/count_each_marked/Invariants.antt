use Rattle.std.proofs.Common.{◌+◌, map}
use Rattle.std.specs.List.{range_with_len}
use Rattle.batch_lengths.specs.Along.{mark_of}
use Rattle.batch_lengths.specs.Counted.{IsCounted}
use Rattle.batch_lengths.proofs.marked.count_each_marked.Given as goal

abbrev pub invariant-loop-number : goal.invariant-loop-number
invariant-loop-number l =
    IsCounted l.source (map (λ number. (l.marks.start + number, mark_of l.marks number)) (range_with_len 0 l.number)) l.counted
