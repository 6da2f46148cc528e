use Rattle.std.proofs.Common.{◌≡◌, ◌+◌, ◌-◌}
use Rattle.std.specs.List.{flat_map, range_with_len}
use Rattle.byteorder.specs.Endian.{little_bytes}
use Rattle.batch_types.specs.Placed.{start_of}
use Rattle.batch_reading.proofs.one_run.moved_offsets.Given as goal

abbrev pub invariant-loop-number : goal.invariant-loop-number
invariant-loop-number l =
    l.ends.items
    ≡ flat_map (λ j. little_bytes 4 (start_of 4 l.fn.offsets (l.fn.run.start + j) - start_of 4 l.fn.offsets l.fn.run.start)) (range_with_len 0 l.number)
