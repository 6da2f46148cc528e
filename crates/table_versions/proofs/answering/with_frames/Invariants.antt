use Rattle.std.proofs.Common.{◌≡◌, ◌≤◌, ◌∷◌, List, length, take}
use Rattle.std.specs.List.{flat_map}
use Rattle.table_types.specs.Uploads.{Upload}
use Rattle.table_versions.specs.Ledger.{HasFrames, frames_of}
use Rattle.table_versions.proofs.answering.with_frames.Given as goal

abbrev pub invariant-loop-before : goal.invariant-loop-before
invariant-loop-before l =
    (uploads : List Upload) → HasFrames l.frames.entries l.table 1 uploads → l.version ≤ length uploads
    → l.shared.items ≡ l.first ∷ flat_map frames_of (take l.before uploads)
