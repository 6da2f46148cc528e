use Rattle.std.proofs.Common.{◌≡◌, ◌⊎◌}
use Rattle.header_types.specs.declared.fault.MetaFault.{MetaFault}
use Rattle.header_types.specs.declared.fault.MetaFault.TheVariants.{OutOfMemory}
use Rattle.header_reading.specs.VectorRefs.{vector_ref_of}
use Rattle.header_types.specs.Totals.{totals_of}
use Rattle.header_reading.specs.Walking.{EntriesEnd}
use Rattle.header_reading.proofs.SlotFacts.{handed_on}
use Rattle.header_reading.proofs.EntryWalks.{entries_pass, entries_end}
use Rattle.header_reading.proofs.Building.{or_memory, entries_built}
use Rattle.header_reading.proofs.build.build_entries.Goals as goal

pub returns-in_err-entry-clause-ends : goal.returns-in_err-entry-clause-ends
returns-in_err-entry-clause-ends c =
    let e : MetaFault = c.in_err-entry.field-0.0 in
    handed_on (λ e. (e ≡ OutOfMemory) ⊎ EntriesEnd c.args.buf.now (vector_ref_of c.args.vector)
    (totals_of c.args.seen) e) c.from_residual.result e c.from_residual.ensures.1
    (or_memory e (entries_end c.args.buf.now (vector_ref_of c.args.vector) c.loop-index.index c.element.result
    (totals_of c.args.seen) (totals_of c.loop-index.seen) e
    c.loop-index.invariant.2 c.loop-index-test.true c.element.ensures) c.in_err-entry.ensures.ends)

pub loop-index-preserved : goal.loop-index-preserved
loop-index-preserved c =
    let built =
    entries_built c.args.buf.now c.args.vector.first c.loop-index.index c.element.result c.loop-index.entries.items
    c.push.new.items.items c.in_ok-entry.entry
    c.loop-index.invariant.0 c.loop-index.invariant.1 c.element.ensures c.in_ok-entry.ensures.read
    c.in_ok-push.ensures.appended in (
      built.0,
      built.1,
      entries_pass c.args.buf.now c.args.vector.first c.loop-index.index c.element.result (totals_of c.args.seen)
          (totals_of c.loop-index.seen) (totals_of c.in_ok-entry.more)
          c.loop-index.invariant.2 c.element.ensures c.in_ok-entry.ensures.passes,
      c.in_ok-entry.ensures.within,
    )
