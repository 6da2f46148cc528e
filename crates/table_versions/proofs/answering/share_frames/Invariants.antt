use Rattle.std.proofs.Common.{◌≡◌, ◌++◌, take}
use Rattle.table_versions.proofs.answering.share_frames.Given as goal

abbrev pub invariant-loop-frame : goal.invariant-loop-frame
invariant-loop-frame l = l.shared.items ≡ l.fn.shared.items ++ take l.frame-index l.frames
