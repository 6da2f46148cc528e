use Rattle.std.proofs.Common.{◌≡◌, ℕ, ◌+◌, ◌≤◌, map, length, take, drop}
use Rattle.std.specs.List.{flat_map}
use Rattle.batch_types.specs.Canonical.{offsets_of}
use Rattle.batch_types.specs.LaysOut.{values_limit}
use Rattle.batch_types.specs.Placed.{start_of}
use Rattle.batch_reading.specs.Gathered.{places_gathered, AreGathered}
use Rattle.batch_reading.specs.Planned.{elements_taken}
use Rattle.batch_reading.specs.Spots.{places_of, places_ahead, spots_of}
use Rattle.batch_reading.proofs.Running.{DoRise}
use Rattle.batch_reading.proofs.inside.picked_lists.Given as goal

abbrev pub invariant-loop-number : goal.invariant-loop-number
invariant-loop-number l = record {
  ended : l.ends.items ≡ offsets_of 4 (map (λ spot. length (elements_taken l.fn.offsets spot)) (take l.number (spots_of l.fn.selection)));
  placed : places_gathered l.spans ≡ flat_map (elements_taken l.fn.offsets) (take l.number (spots_of l.fn.selection));
  kept : (from : ℕ) × (end : ℕ) × DoRise from values_limit (drop l.number (places_of l.fn.selection.runs.now))
      × AreGathered end l.spans × (end ≤ start_of 4 l.fn.offsets from);
  ahead : places_ahead l.fn.selection.runs.now l.cursor ≡ drop l.number (places_of l.fn.selection.runs.now);
  within : l.cursor.place + l.cursor.left ≤ values_limit;
}
