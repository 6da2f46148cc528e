use Rattle.std.proofs.Common.{◌≡◌, ◌*◌, take}
use Rattle.std.specs.List.{flat_map}
use Rattle.batch_types.specs.Placed.{bytes_from}
use Rattle.batch_reading.specs.Spots.{places_of}
use Rattle.batch_reading.proofs.blocks.run_blocks.Given as goal

abbrev pub invariant-loop-run : goal.invariant-loop-run
invariant-loop-run l =
    l.blocks.items ≡ flat_map (λ place. bytes_from l.fn.bytes (l.fn.size * place) l.fn.size) (places_of (take l.run-index l.fn.runs))
