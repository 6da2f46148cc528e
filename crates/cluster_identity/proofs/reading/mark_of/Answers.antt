use Rattle.std.proofs.Common.{◌≡◌, None, Some, ap, ◌∙◌}
use Rattle.std.proofs.lemmas.Option.{same_Some}
use Rattle.cluster_identity.specs.declared.file_mark.FileMark.{FileMark}
use Rattle.cluster_identity.proofs.Told.{one_mark}
use Rattle.cluster_identity.proofs.reading.mark_of.Goals as goal

pub returns-in_err-digest-clause-only : goal.returns-in_err-digest-clause-only
returns-in_err-digest-clause-only c = λ mark told.
    let no : None ≡ Some mark.digest = c.in_err-digest.ensures.only mark.digest told.digested in
    absurd cc

pub returns-clause-only : goal.returns-clause-only
returns-clause-only c = λ mark told.
    let read : FileMark = record { length = c.in_ok-length.length; digest = c.in_ok-digest.digest } in
    let sized : read.length ≡ mark.length = same_Some read.length mark.length (c.in_ok-length.ensures ∙ told.sized) in
    let digested : read.digest ≡ mark.digest = same_Some read.digest mark.digest (c.in_ok-digest.ensures.only mark.digest told.digested) in
    ap (λ (m : FileMark). Some m) (one_mark read mark sized digested)
