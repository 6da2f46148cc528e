use Rattle.std.specs.Prelude.{List, map, take, string_bytes}
use Rattle.std.specs.List.{AllZip}
use Rattle.ballots.specs.declared.value.Value.{Value}
use Rattle.table_types.specs.Uploads.{Upload}
use Rattle.table_types.specs.Tables.{effective}
use Rattle.table_versions.specs.Values.{AreUploadsIn}
use Rattle.table_versions.specs.State.{HasTaken}
use Rattle.table_backend.specs.Backing.{TellsLatest}
use Rattle.table_backend.proofs.parts.all_described.Given as goal

abbrev pub invariant-loop-name : goal.invariant-loop-name
invariant-loop-name l =
    (values : List Value) (uploads : List Upload) → HasTaken l.fn.tables values → AreUploadsIn values uploads
    → AllZip (λ name found. TellsLatest (map string_bytes l.fn.locations) name (effective name uploads) found)
    (map string_bytes (take l.name-index l.fn.names)) l.all.items
