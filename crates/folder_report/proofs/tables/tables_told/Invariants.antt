use Rattle.std.proofs.Common.{◌≡◌, List, map, take, string_bytes}
use Rattle.ballots.specs.declared.value.Value.{Value}
use Rattle.table_types.specs.Uploads.{Upload}
use Rattle.table_versions.specs.State.{HasTaken}
use Rattle.table_versions.specs.Values.{AreUploadsIn}
use Rattle.folder_report.specs.Reporting.{latest_in, told_table}
use Rattle.folder_report.proofs.tables.tables_told.Given as goal

abbrev pub invariant-loop-name : goal.invariant-loop-name
invariant-loop-name l =
    (values : List Value) (uploads : List Upload) → HasTaken l.tables values → AreUploadsIn values uploads
    → map told_table l.told.items ≡ map (latest_in uploads) (map string_bytes (take l.name-index l.name-items))
