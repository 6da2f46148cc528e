use Rattle.std.proofs.Common.{arith, sym, subst}
use Rattle.std.proofs.lemmas.List.{length-append}
use Rattle.header_types.specs.Header.{ShowsPairs}
use Rattle.header_reading.specs.Reading.{IsPairAt}
use Rattle.header_reading.proofs.BatchFacts.{pairs_append}
use Rattle.header_reading.proofs.batch.pairs_at.Goals as goal

pub loop-index-preserved : goal.loop-index-preserved
loop-index-preserved c =
    let items = rw c.unwrap.ensures at c.push.ensures.items in
    let len = rw c.unwrap.ensures at c.push.ensures.len in
    let there = subst (λ i. IsPairAt c.args.buf.now c.args.vector.first i c.pair_at.result)
    (sym c.loop-index.invariant.all) c.pair_at.ensures in
    record {
      shown = subst (ShowsPairs c.args.buf.now c.args.vector.first) (sym items)
          (pairs_append c.args.buf.now c.args.vector.first c.loop-index.pairs.items c.pair_at.result
          c.loop-index.invariant.shown there);
      all = rw (items, length-append) (omega arith);
      counted = omega arith;
      room = omega arith;
    }
