use Rattle.header_types.specs.declared.fault.MetaFault.{MetaFault}
use Rattle.header_reading.specs.VectorRefs.{vector_ref_of}
use Rattle.header_types.specs.Totals.{totals_of}
use Rattle.header_reading.specs.Walking.{EntriesEnd}
use Rattle.header_reading.proofs.SlotFacts.{handed_on}
use Rattle.header_reading.proofs.EntryWalks.{entries_pass, entries_end}
use Rattle.header_reading.proofs.verify.verify_entries.Goals as goal

pub returns-in_err-seen-clause-ends : goal.returns-in_err-seen-clause-ends
returns-in_err-seen-clause-ends c =
    let e : MetaFault = c.in_err-seen.field-0.0 in
    handed_on (EntriesEnd c.args.buf.now (vector_ref_of c.args.vector) (totals_of c.args.seen)) c.from_residual.result e
    c.from_residual.ensures.1
    (entries_end c.args.buf.now (vector_ref_of c.args.vector) c.loop-index.index c.element.result
    (totals_of c.args.seen) (totals_of c.loop-index.seen) e
    c.loop-index.invariant.0 c.loop-index-test.true c.element.ensures c.in_err-seen.ensures.ends)

pub loop-index-preserved : goal.loop-index-preserved
loop-index-preserved c = (
  entries_pass c.args.buf.now c.args.vector.first c.loop-index.index c.element.result (totals_of c.args.seen)
      (totals_of c.loop-index.seen) (totals_of c.in_ok-seen.field-0-1)
      c.loop-index.invariant.0 c.element.ensures c.in_ok-seen.ensures.passes,
  c.in_ok-seen.ensures.within,
)
