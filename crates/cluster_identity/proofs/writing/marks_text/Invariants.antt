use Rattle.std.proofs.Common.{◌≡◌, take, string_bytes}
use Rattle.std.specs.List.{AllByRecursion}
use Rattle.cluster_identity.specs.IdentityTexts.{IsMark, marks_text}
use Rattle.cluster_identity.proofs.writing.marks_text.Given as goal

abbrev pub invariant-loop-place : goal.invariant-loop-place
invariant-loop-place l = record {
  text : string_bytes l.text ≡ marks_text (take l.place l.marks);
  are_marks : AllByRecursion IsMark (take l.place l.marks);
}
