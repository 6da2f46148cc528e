use Rattle.std.proofs.Common.{◌<◌, refl, sym, ap, ◌∙◌, subst}
use Rattle.std.proofs.lemmas.Bool.{false≢true}
use Rattle.batch_columns.specs.Held.{shapes_held, heights}
use Rattle.batch_columns.specs.FieldShapes.{field_shapes}
use Rattle.batch_columns.proofs.Beside.{same_length, all_same, layout_same, inside_same, rest_same, falls}
use Rattle.batch_columns.proofs.fitting.+are_of.Goals as goal
use Rattle.batch_columns.proofs.fitting.+are_of.Goals.{then-not-has_layout-via-then-not-has_layout}
use Rattle.batch_columns.proofs.fitting.+are_of.Goals.{then-not-has_layout-via-else-not-has_layout+then-not-are_of}

pub returns-then-columns-fields : goal.returns-then-columns-fields
returns-then-columns-fields t c = (
  λ no. absurd (false≢true no),
  λ same. absurd (c.if-columns-fields.true (same_length c.args.columns.now c.args.fields.now same)),
)

pub are_of-requires : goal.are_of-requires
are_of-requires t c =
    let there = subst (λ n. c.loop-index.index < n) (sym c.if-columns-fields.false) c.loop-index-test.true in (
      subst (λ n. heights (shapes_held c.inside.result.now) < n) c.decreases
          (falls c.args.columns.now c.loop-index.index c.index-columns-index.result c.inside.result.now there c.index-columns-index.is c.inside.ensures.shapes),
      tt,
    )

pub returns-then-not-has_layout : goal.returns-then-not-has_layout
returns-then-not-has_layout t c =
    let there = subst (λ n. c.loop-index.index < n) (sym c.if-columns-fields.false) c.loop-index-test.true in (
      λ no. absurd (false≢true no),
      λ same.
          let left = c.loop-index.invariant.1 same in
          elim c.then-not-has_layout.branch [
            | then-not-has_layout-via-then-not-has_layout w ↦
                w.if-not-has_layout.ensures.1
                (layout_same c.args.columns.now c.args.fields.now c.loop-index.index c.index-columns-index.result c.index-fields-index.result
                there c.loop-index-test.true c.index-columns-index.is c.index-fields-index.is left)
            | then-not-has_layout-via-else-not-has_layout+then-not-are_of w ↦
                w.if-not-are_of.ensures.1
                (w.inside.ensures.shapes
                ∙ inside_same c.args.columns.now c.args.fields.now c.loop-index.index c.index-columns-index.result c.index-fields-index.result
                there c.loop-index-test.true c.index-columns-index.is c.index-fields-index.is left
                ∙ sym (ap field_shapes w.deref.ensures.value))
          ],
    )

pub loop-index-preserved : goal.loop-index-preserved
loop-index-preserved t c =
    let there = subst (λ n. c.loop-index.index < n) (sym c.if-columns-fields.false) c.loop-index-test.true in (
      λ rest.
          c.loop-index.invariant.0
          (all_same c.args.columns.now c.args.fields.now c.loop-index.index c.index-columns-index.result c.index-fields-index.result
          there c.loop-index-test.true c.index-columns-index.is c.index-fields-index.is
          (c.if-not-has_layout.ensures.0 refl)
          (sym c.inside.ensures.shapes ∙ c.if-not-are_of.ensures.0 refl ∙ ap field_shapes c.deref.ensures.value)
          rest),
      λ same.
          rest_same c.args.columns.now c.args.fields.now c.loop-index.index c.index-columns-index.result c.index-fields-index.result
          there c.loop-index-test.true c.index-columns-index.is c.index-fields-index.is (c.loop-index.invariant.1 same),
    )
