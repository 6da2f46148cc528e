use Rattle.std.proofs.Common.{◌-◌, List, map, length, refl, sym, subst}
use Rattle.std.proofs.lemmas.Bool.{false≢true}
use Rattle.header_types.specs.declared.schema.Field.{Field}
use Rattle.header_types.specs.Views.{tree_of, forest_of}
use Rattle.header_types.specs.Totals.{totals_of}
use Rattle.header_types.specs.FieldView.{field_head_of}
use Rattle.header_types.specs.Fitting.{IsProper, FitsForest, ForestIsRefused}
use Rattle.header_types.proofs.Fitting.{field_fitted, level_refused, improper_refused, field_refused, below_refused}
use Rattle.header_types.proofs.profile.+add_fields.Goals as goal
use Rattle.header_types.proofs.profile.+add_fields.Goals.{then-levels-eq0-via-then-levels-eq0}
use Rattle.header_types.proofs.profile.+add_fields.Goals.{then-levels-eq0-via-else-levels-eq0+then-not-is_proper}

pub returns-then-levels-eq0-clause-refused : goal.returns-then-levels-eq0-clause-refused
returns-then-levels-eq0-clause-refused t c none = elim c.then-levels-eq0.branch [
  | then-levels-eq0-via-then-levels-eq0 w ↦
      level_refused c.args.levels (totals_of c.args.seen)
      (totals_of c.loop-field.seen) c.args.fields.now c.loop-field.field-index c.field-item.result
      c.loop-field-test.true c.field-item.is c.loop-field.invariant w.if-levels-eq0.true
  | then-levels-eq0-via-else-levels-eq0+then-not-is_proper w ↦
      improper_refused c.args.levels (totals_of c.args.seen)
      (totals_of c.loop-field.seen) c.args.fields.now c.loop-field.field-index c.field-item.result
      c.loop-field-test.true c.field-item.is c.loop-field.invariant
      (λ proper. false≢true (w.if-not-is_proper.ensures.1
      (subst (λ (fields : List Field). IsProper (field_head_of c.field-item.result).data_type (length fields))
      (sym c.as_slice-children.ensures.value) proper)))
]

pub returns-in_err-after-clause-refused : goal.returns-in_err-after-clause-refused
returns-in_err-after-clause-refused t c none =
    field_refused c.args.levels (totals_of c.args.seen)
    (totals_of c.loop-field.seen) c.args.fields.now c.loop-field.field-index c.field-item.result
    c.loop-field-test.true c.field-item.is c.loop-field.invariant (c.in_err-after.ensures.beyond refl)

pub returns-in_err-seen-clause-refused : goal.returns-in_err-seen-clause-refused
returns-in_err-seen-clause-refused t c none =
    below_refused c.args.levels (totals_of c.args.seen) (totals_of c.loop-field.seen)
    (totals_of c.in_ok-after.after) c.args.fields.now c.loop-field.field-index c.field-item.result
    c.loop-field-test.true c.field-item.is c.if-levels-eq0.false c.loop-field.invariant c.in_ok-after.ensures.added
    (subst (λ (fields : List Field). ForestIsRefused (c.args.levels - 1) (totals_of c.in_ok-after.after)
    (forest_of (map tree_of fields))) c.as_slice-children.ensures.value (c.in_err-seen.ensures.refused refl))

pub loop-field-preserved : goal.loop-field-preserved
loop-field-preserved t c =
    field_fitted c.args.levels (totals_of c.args.seen) (totals_of c.loop-field.seen) (totals_of c.in_ok-after.after)
    (totals_of c.in_ok-seen.seen) c.args.fields.now
    c.loop-field.field-index c.field-item.result c.loop-field-test.true c.field-item.is c.if-levels-eq0.false
    c.loop-field.invariant
    (subst (λ (fields : List Field). IsProper (field_head_of c.field-item.result).data_type (length fields))
    c.as_slice-children.ensures.value (c.if-not-is_proper.ensures.0 refl)) c.in_ok-after.ensures.added
    (subst (λ (fields : List Field). FitsForest (c.args.levels - 1) (totals_of c.in_ok-after.after)
    (totals_of c.in_ok-seen.seen) (forest_of (map tree_of fields))) c.as_slice-children.ensures.value
    c.in_ok-seen.ensures.fits)
