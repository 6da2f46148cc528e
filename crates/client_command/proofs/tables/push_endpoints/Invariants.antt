use Rattle.std.proofs.Common.{◌≡◌, ◌++◌, take, string_bytes}
use Rattle.std.specs.List.{flat_map}
use Rattle.client_command.proofs.Joined.{lines_of}
use Rattle.client_command.proofs.tables.push_endpoints.Given as goal

abbrev pub invariant-loop-endpoint : goal.invariant-loop-endpoint
invariant-loop-endpoint l =
    string_bytes l.text ≡ string_bytes l.initial.text ++ flat_map lines_of (take l.endpoint-index l.endpoints)
