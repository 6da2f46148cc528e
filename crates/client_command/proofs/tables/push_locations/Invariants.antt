use Rattle.std.proofs.Common.{◌≡◌, ◌++◌, take, string_bytes}
use Rattle.std.specs.List.{flat_map}
use Rattle.client_command.proofs.Joined.{line_of}
use Rattle.client_command.proofs.tables.push_locations.Given as goal

abbrev pub invariant-loop-location : goal.invariant-loop-location
invariant-loop-location l =
    string_bytes l.text ≡ string_bytes l.initial.text ++ flat_map line_of (take l.location-index l.location-items)
