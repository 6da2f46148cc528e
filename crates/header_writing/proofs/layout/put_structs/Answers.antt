use Rattle.header_writing.proofs.Appending.{structs_more, fits_more}
use Rattle.header_writing.proofs.layout.put_structs.Goals as goal

pub loop-pair-preserved : goal.loop-pair-preserved
loop-pair-preserved c = (
  structs_more c.args.text.now.items c.loop-pair.text.items c.put_pair.new.text.items c.args.pairs.now
      c.loop-pair.pair-index _ c.loop-pair-test.true
      c.loop-pair.invariant.0 c.in_ok-put_pair.ensures.put,
  fits_more c.args.pairs.now c.loop-pair.pair-index _ c.loop-pair-test.true c.put_pair.ensures.fits
      c.loop-pair.invariant.1,
)
