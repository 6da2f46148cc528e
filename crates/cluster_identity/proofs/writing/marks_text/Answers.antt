use Rattle.std.proofs.Common.{string_bytes, ap, ◌∙◌, ◌++◌, ◌≡◌, List, ℕ, arith}
use Rattle.cluster_identity.proofs.Texts.{first_written, later_written, all_more}
use Rattle.cluster_identity.specs.IdentityTexts.{IsMark}
use Rattle.cluster_identity.proofs.writing.marks_text.Goals as goal
use Rattle.cluster_identity.proofs.writing.marks_text.Goals.{then-place-gt0+in_ok-push_str, else-place-gt0}

pub loop-place-preserved : goal.loop-place-preserved
loop-place-preserved c =
    let marks = c.args.marks.now in
    let place = c.loop-place.place in
    let old = string_bytes c.loop-place.text in
    let before = string_bytes c.if-place-gt0.text in
    let one = string_bytes c.in_ok-mark_text.field-0 in
    let new = string_bytes c.push_str-in-loop-place.new.self in
    let written : new ≡ before ++ one = c.in_ok-push_str-2.ensures.bytes ∙ ap (λ (l : List ℕ). before ++ l) c.deref.ensures in
    record {
      text =
          elim c.if-place-gt0.branch [
            | then-place-gt0+in_ok-push_str w ↦
                let comma = ap string_bytes w.text-is ∙ w.in_ok-push_str.ensures.bytes in
                later_written marks place old before one new c.loop-place-test.true w.if-place-gt0.true c.loop-place.invariant.text comma c.in_ok-mark_text.ensures.text written
            | else-place-gt0 w ↦
                first_written marks place old before one new c.loop-place-test.true (omega arith) c.loop-place.invariant.text (ap string_bytes w.text-is) c.in_ok-mark_text.ensures.text written
          ];
      are_marks = all_more IsMark marks place c.loop-place-test.true c.loop-place.invariant.are_marks c.in_ok-mark_text.ensures.is_mark;
    }
