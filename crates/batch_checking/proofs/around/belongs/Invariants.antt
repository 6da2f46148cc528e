use Rattle.std.proofs.Common.{◌≡◌, ◌≤◌, length, take}
use Rattle.std.specs.List.{range_with_len}
use Rattle.batch_checking.specs.Around.{Holds, places_around}
use Rattle.batch_checking.proofs.around.belongs.Given as goal

abbrev pub invariant-loop-depth : goal.invariant-loop-depth
invariant-loop-depth l =
    (l.depth ≤ length l.around)
    × (length l.guesses ≡ 16)
    × (Holds (places_around (range_with_len 0 l.rows) (take l.depth l.around)) l.place → Holds (places_around (range_with_len 0 l.rows) l.around) l.initial.place)
    × (Holds (places_around (range_with_len 0 l.rows) l.around) l.initial.place → Holds (places_around (range_with_len 0 l.rows) (take l.depth l.around)) l.place)

abbrev pub decreases-loop-depth : goal.decreases-loop-depth
decreases-loop-depth l = l.depth
