use Rattle.std.specs.Prelude.{List, map, take, string_bytes}
use Rattle.std.specs.List.{AllZip}
use Rattle.node_threads.specs.parts.table_types.specs.Uploads.{Upload}
use Rattle.node_threads.specs.parts.table_types.specs.Tables.{effective}
use Rattle.table_backend.specs.Backing.{TellsLatest}
use Rattle.cluster_backend.specs.Backing.{HasTables}
use Rattle.cluster_backend.proofs.running.all_told.Given as goal

abbrev pub invariant-loop-name : goal.invariant-loop-name
invariant-loop-name l =
    (uploads : List Upload) → HasTables l.fn.node uploads
    → AllZip (λ name found. TellsLatest (map string_bytes l.fn.locations) name (effective name uploads) found)
    (map string_bytes (take l.name-index l.fn.names)) l.all.items
