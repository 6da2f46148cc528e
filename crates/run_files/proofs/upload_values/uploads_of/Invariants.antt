use Rattle.std.proofs.Common.{map, take}
use Rattle.std.specs.List.{AllZip}
use Rattle.serde_json.specs.View.{view}
use Rattle.run_files.specs.UploadValue.{MeansUpload}
use Rattle.run_files.proofs.upload_values.uploads_of.Given as goal

abbrev pub invariant-loop-place : goal.invariant-loop-place
invariant-loop-place l = AllZip MeansUpload (map view (take l.place l.fn.values)) l.uploads.items
