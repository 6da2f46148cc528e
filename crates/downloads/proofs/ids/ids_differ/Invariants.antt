use Rattle.std.proofs.Common.{map, take}
use Rattle.downloads.specs.Taken.{served_in}
use Rattle.downloads.proofs.Differing.{AreIds}
use Rattle.downloads.proofs.ids.ids_differ.Given as goal

-- the ids of the uploads so far, which differ
abbrev pub invariant-loop-upload : goal.invariant-loop-upload
invariant-loop-upload l = AreIds l.ids (map served_in (take l.upload-index l.fn.uploads))
