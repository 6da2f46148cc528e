use Rattle.std.proofs.Common.{◌<◌, refl, subst}
use Rattle.std.proofs.lemmas.Bool.{false≢true}
use Rattle.batch_columns.specs.Held.{shapes_held, heights}
use Rattle.batch_columns.proofs.Beside.{falls}
use Rattle.batch_columns.proofs.Comparing.{equal_alike, equal_inside, equal_by_inside, here_and_behind, equal_here, equal_behind}
use Rattle.batch_columns.proofs.equal.+are_equal.Goals as goal
use Rattle.batch_columns.proofs.equal.+are_equal.Goals.{then-not-are_alike-via-then-not-are_alike}
use Rattle.batch_columns.proofs.equal.+are_equal.Goals.{then-not-are_alike-via-else-not-are_alike+then-not-are_equal}

pub are_equal-requires : goal.are_equal-requires
are_equal-requires t c = (
  subst (λ n. heights (shapes_held c.inside.result.now) < n) c.decreases
      (falls c.args.left.now c.loop-index.index c.index-left-index.result c.inside.result.now c.loop-index-test.true c.index-left-index.is c.inside.ensures.shapes),
  tt,
)

pub returns-then-not-are_alike : goal.returns-then-not-are_alike
returns-then-not-are_alike t c =
    let there = subst (λ n. c.loop-index.index < n) c.if-left-right.false c.loop-index-test.true in (
      λ no. absurd (false≢true no),
      λ same.
          let here = equal_here c.args.left.now c.args.right.now c.loop-index.index c.index-left-index.result c.index-right-index.result
          c.loop-index-test.true there c.index-left-index.is c.index-right-index.is (c.loop-index.invariant.1 same) in
          elim c.then-not-are_alike.branch [
            | then-not-are_alike-via-then-not-are_alike w ↦
                w.if-not-are_alike.ensures.1 (equal_alike c.index-left-index.result c.index-right-index.result here)
            | then-not-are_alike-via-else-not-are_alike+then-not-are_equal w ↦
                w.if-not-are_equal.ensures.1
                (equal_inside c.index-left-index.result c.index-right-index.result w.inside.result.now w.inside-else-not-are_alike.result.now
                w.inside.ensures.shapes w.inside.ensures.held w.inside-else-not-are_alike.ensures.shapes w.inside-else-not-are_alike.ensures.held here)
          ],
    )

pub loop-index-preserved : goal.loop-index-preserved
loop-index-preserved t c =
    let there = subst (λ n. c.loop-index.index < n) c.if-left-right.false c.loop-index-test.true in (
      λ rest.
          c.loop-index.invariant.0
          (here_and_behind c.args.left.now c.args.right.now c.loop-index.index c.index-left-index.result c.index-right-index.result
          c.loop-index-test.true there c.index-left-index.is c.index-right-index.is
          (equal_by_inside c.index-left-index.result c.index-right-index.result c.inside.result.now c.inside-else-not-are_alike.result.now
          (c.alike_are_equal.ensures (c.if-not-are_alike.ensures.0 refl)) c.inside.ensures.shapes c.inside.ensures.held
          c.inside-else-not-are_alike.ensures.shapes c.inside-else-not-are_alike.ensures.held (c.if-not-are_equal.ensures.0 refl))
          rest),
      λ same.
          equal_behind c.args.left.now c.args.right.now c.loop-index.index c.index-left-index.result c.index-right-index.result
          c.loop-index-test.true there c.index-left-index.is c.index-right-index.is (c.loop-index.invariant.1 same),
    )
