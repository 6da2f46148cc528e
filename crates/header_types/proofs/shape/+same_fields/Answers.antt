use Rattle.std.proofs.Common.{◌<◌, refl, sym, ap, ◌∙◌, subst}
use Rattle.std.proofs.lemmas.Bool.{false≢true}
use Rattle.header_types.specs.FieldView.{bare_fields}
use Rattle.header_types.proofs.SameShape.{same_length, all_same, field_head_same, inner_same, rest_same}
use Rattle.header_types.proofs.shape.+same_fields.Goals as goal
use Rattle.header_types.proofs.shape.+same_fields.Goals.{then-not-same_field-via-then-not-same_field}
use Rattle.header_types.proofs.shape.+same_fields.Goals.{then-not-same_field-via-else-not-same_field+then-not-same_fields}

pub returns-then-one-other : goal.returns-then-one-other
returns-then-one-other t c = (
  λ no. absurd (false≢true no),
  λ same. absurd (c.if-one-other.true (same_length c.args.one.now c.args.other.now same)),
)

pub returns-then-not-same_field : goal.returns-then-not-same_field
returns-then-not-same_field t c =
    let there = subst (λ n. c.loop-index.index < n) c.if-one-other.false c.loop-index-test.true in (
      λ no. absurd (false≢true no),
      λ same.
          let left = c.loop-index.invariant.1 same in
          elim c.then-not-same_field.branch [
            | then-not-same_field-via-then-not-same_field w ↦
                w.if-not-same_field.ensures.1
                (field_head_same c.args.one.now c.args.other.now c.loop-index.index c.index-one-index.result
                c.index-other-index.result
                c.loop-index-test.true there c.index-one-index.is c.index-other-index.is left)
            | then-not-same_field-via-else-not-same_field+then-not-same_fields w ↦
                w.if-not-same_fields.ensures.1
                (ap bare_fields w.deref.ensures.value
                ∙ inner_same c.args.one.now c.args.other.now c.loop-index.index c.index-one-index.result
                c.index-other-index.result
                c.loop-index-test.true there c.index-one-index.is c.index-other-index.is left
                ∙ sym (ap bare_fields w.deref-else-not-same_field.ensures.value))
          ],
    )

pub loop-index-preserved : goal.loop-index-preserved
loop-index-preserved t c =
    let there = subst (λ n. c.loop-index.index < n) c.if-one-other.false c.loop-index-test.true in (
      λ rest.
          c.loop-index.invariant.0
          (all_same c.args.one.now c.args.other.now c.loop-index.index c.index-one-index.result
          c.index-other-index.result
          c.loop-index-test.true there c.index-one-index.is c.index-other-index.is
          (c.if-not-same_field.ensures.0 refl)
          (sym (ap bare_fields c.deref.ensures.value) ∙ c.if-not-same_fields.ensures.0 refl
          ∙ ap bare_fields c.deref-else-not-same_field.ensures.value)
          rest),
      λ same.
          rest_same c.args.one.now c.args.other.now c.loop-index.index c.index-one-index.result
          c.index-other-index.result
          c.loop-index-test.true there c.index-one-index.is c.index-other-index.is (c.loop-index.invariant.1 same),
    )
