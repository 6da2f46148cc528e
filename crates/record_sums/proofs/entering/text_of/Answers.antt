use Rattle.record_sums.proofs.Entries.{text_more}
use Rattle.record_sums.proofs.entering.text_of.Goals as goal

pub loop-entry-preserved : goal.loop-entry-preserved
loop-entry-preserved c =
    text_more c.args.entries.now c.loop-entry.entry-index _ c.loop-entry.text.items c.append.new.text.items c.loop-entry-test.true
    c.loop-entry.invariant c.in_ok-append.ensures
