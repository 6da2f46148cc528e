use Rattle.std.proofs.Common.{◌≡◌, length}
use Rattle.table_types.specs.Uploads.{Upload, upload_text}
use Rattle.table_types.specs.Valid.{IsUpload}
use Rattle.table_versions.proofs.Serving.{IsServing}
use Rattle.table_versions.proofs.preparing.served.Given as goal

abbrev pub invariant-loop-header : goal.invariant-loop-header
invariant-loop-header l = (uploaded : Upload) → IsUpload uploaded → upload_text uploaded ≡ l.upload → IsServing uploaded l.frames.items l.records l.batches

abbrev pub decreases-loop-header : goal.decreases-loop-header
decreases-loop-header l = length l.batches
