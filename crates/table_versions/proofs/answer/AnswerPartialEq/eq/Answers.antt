use Rattle.std.proofs.Common.{◌==◌, ap₂, ◌∙◌}
use Rattle.std.proofs.lemmas.Slice.Eq.{bytes_eq-Decides, slice_eq-Decides}
use lib.Pointwise.{pointwise}
use Rattle.table_versions.proofs.Frames.{eq_is}
use Rattle.table_versions.proofs.answer.AnswerPartialEq.eq.Goals as goal

pub returns : goal.returns
returns c =
    eq_is c.frames_are_one.ensures c.self.inside.frames.items c.other.inside.frames.items c.as_slice.result.now c.as_slice-2.result.now c.as_slice.ensures.value
    c.as_slice-2.ensures.value c.self.invariant.each c.other.invariant.each c.eq.result
    (slice_eq-Decides bytes_eq-Decides c.as_slice.result.now c.as_slice-2.result.now c.eq.result c.eq.ensures)
    ∙ ap₂ (λ a b. pointwise ◌==◌ a b) c.self.view_is c.other.view_is
