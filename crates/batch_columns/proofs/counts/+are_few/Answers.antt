use Rattle.std.proofs.Common.{◌<◌, ◌≤◌, refl, subst, arith, length}
use Rattle.std.proofs.lemmas.Bool.{false≢true}
use Rattle.batch_types.specs.LaysOut.{values_limit}
use Rattle.batch_columns.specs.Held.{shapes_held, heights}
use Rattle.batch_columns.proofs.Beside.{falls}
use Rattle.batch_columns.proofs.Counting.{own_few, few_here, few_from}
use Rattle.batch_columns.proofs.counts.+are_few.Goals as goal
use Rattle.batch_columns.proofs.counts.+are_few.Goals.{then-len-gt-VALUES_LIMIT-via-then-len-gt-VALUES_LIMIT}
use Rattle.batch_columns.proofs.counts.+are_few.Goals.{then-len-gt-VALUES_LIMIT-via-else-len-gt-VALUES_LIMIT+then-not-are_few}

pub are_few-requires : goal.are_few-requires
are_few-requires t c = (
  subst (λ n. heights (shapes_held c.inside.result.now) < n) c.decreases
      (falls c.args.columns.now c.loop-column.column-index c.column-item.result c.inside.result.now c.loop-column-test.true c.column-item.is
      c.inside.ensures.shapes),
  tt,
)

pub returns-then-len-gt-VALUES_LIMIT : goal.returns-then-len-gt-VALUES_LIMIT
returns-then-len-gt-VALUES_LIMIT t c = (
  λ no. absurd (false≢true no),
  λ few.
      let left = c.loop-column.invariant.1 few in
      elim c.then-len-gt-VALUES_LIMIT.branch [
        | then-len-gt-VALUES_LIMIT-via-then-len-gt-VALUES_LIMIT w ↦
            let own : length c.column-item.result.cells ≤ values_limit =
            own_few c.args.columns.now c.loop-column.column-index c.column-item.result c.loop-column-test.true c.column-item.is left in
            absurd (omega (arith, c.len.ensures, own, w.if-len-gt-VALUES_LIMIT.true))
        | then-len-gt-VALUES_LIMIT-via-else-len-gt-VALUES_LIMIT+then-not-are_few w ↦
            w.if-not-are_few.ensures.1
            (few_here c.column-item.result w.inside.result.now w.inside.ensures.shapes w.inside.ensures.held c.args.columns.now
            c.loop-column.column-index c.loop-column-test.true c.column-item.is left).0
      ],
)

pub loop-column-preserved : goal.loop-column-preserved
loop-column-preserved t c =
    let own : length c.column-item.result.cells ≤ values_limit = omega (arith, c.len.ensures, c.if-len-gt-VALUES_LIMIT.false) in (
      λ rest.
          c.loop-column.invariant.0
          (few_from c.column-item.result c.inside.result.now c.inside.ensures.shapes c.inside.ensures.held c.args.columns.now
          c.loop-column.column-index c.loop-column-test.true c.column-item.is own (c.if-not-are_few.ensures.0 refl) rest),
      λ few.
          (few_here c.column-item.result c.inside.result.now c.inside.ensures.shapes c.inside.ensures.held c.args.columns.now
          c.loop-column.column-index c.loop-column-test.true c.column-item.is (c.loop-column.invariant.1 few)).1,
    )
