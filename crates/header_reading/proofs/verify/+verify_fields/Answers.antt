use Rattle.header_types.specs.declared.fault.MetaFault.{MetaFault}
use Rattle.header_reading.specs.VectorRefs.{vector_ref_of}
use Rattle.header_types.specs.Totals.{totals_of}
use Rattle.header_reading.specs.Walking.{ForestEnd}
use Rattle.header_reading.proofs.SlotFacts.{handed_on}
use Rattle.header_reading.proofs.Walking.{fields_pass_within, fields_end_within, inner_ends_within}
use Rattle.header_reading.proofs.verify.+verify_fields.Goals as goal

pub returns-in_err-children-clause-ends : goal.returns-in_err-children-clause-ends
returns-in_err-children-clause-ends t c =
    let e : MetaFault = c.in_err-children.field-0.0 in
    handed_on (ForestEnd c.args.buf.now c.args.levels (vector_ref_of c.args.vector) (totals_of c.args.seen))
    c.from_residual.result e c.from_residual.ensures.1
    (fields_end_within c.args.buf.now (vector_ref_of c.args.vector) c.loop-index.index c.args.levels
    c.element-table.result (totals_of c.args.seen) (totals_of c.loop-index.seen) e
    c.if-levels-eq0.false c.loop-index.invariant.0 c.loop-index-test.true c.element-table.ensures
    c.in_err-children.ensures.ends)

pub returns-in_err-seen-clause-ends : goal.returns-in_err-seen-clause-ends
returns-in_err-seen-clause-ends t c =
    let e : MetaFault = c.in_err-seen.field-0.0 in
    handed_on (ForestEnd c.args.buf.now c.args.levels (vector_ref_of c.args.vector) (totals_of c.args.seen))
    c.from_residual-in_err-seen.result e c.from_residual-in_err-seen.ensures.1
    (inner_ends_within c.args.buf.now (vector_ref_of c.args.vector) c.loop-index.index c.args.levels
    c.element-table.result (vector_ref_of c.in_ok-children.children)
    (totals_of c.args.seen) (totals_of c.loop-index.seen) (totals_of c.in_ok-children.after) e
    c.if-levels-eq0.false c.loop-index.invariant.0 c.loop-index-test.true c.element-table.ensures
    c.in_ok-children.ensures.passes c.in_err-seen.ensures.ends)

pub loop-index-preserved : goal.loop-index-preserved
loop-index-preserved t c = (
  fields_pass_within c.args.buf.now c.args.vector.first c.loop-index.index c.args.levels c.element-table.result
      (vector_ref_of c.in_ok-children.children)
      (totals_of c.args.seen) (totals_of c.loop-index.seen) (totals_of c.in_ok-children.after)
      (totals_of c.in_ok-seen.seen)
      c.if-levels-eq0.false c.loop-index.invariant.0 c.element-table.ensures c.in_ok-children.ensures.passes
      c.in_ok-seen.ensures.passes,
  c.in_ok-seen.ensures.within,
)
