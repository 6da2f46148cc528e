use Rattle.std.proofs.Common.{◌≡◌, map, take, string_bytes}
use Rattle.table_versions.specs.Ledger.{names_in}
use Rattle.table_versions.proofs.listing.names_by.Given as goal

abbrev pub invariant-loop-number : goal.invariant-loop-number
invariant-loop-number l = map string_bytes l.names.items ≡ take l.number (names_in l.tables.entries)
