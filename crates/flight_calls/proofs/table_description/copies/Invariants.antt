use Rattle.std.specs.Prelude.{◌≡◌, map, take, string_bytes}
use Rattle.flight_calls.proofs.table_description.copies.Given as goal

abbrev pub invariant-loop-text : goal.invariant-loop-text
invariant-loop-text l = map string_bytes l.copies.items ≡ map string_bytes (take l.text-index l.texts)
