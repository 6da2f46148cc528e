use Rattle.std.proofs.Common.{refl, sym, ◌∙◌}
use Rattle.std.proofs.lemmas.Bool.{false≢true}
use Rattle.batch_columns.proofs.Comparing.{equal_alike, equal_inside, equal_by_inside, test_is_same}
use Rattle.batch_columns.proofs.equal.ColumnPartialEq.eq.Goals as goal

pub returns-then-are_alike-clause-equal : goal.returns-then-are_alike-clause-equal
returns-then-are_alike-clause-equal c = (
  λ is.
      equal_by_inside c.args.self.now c.args.other.now c.inside.result.now c.inside-then-are_alike.result.now
      (c.alike_are_equal.ensures (c.if-are_alike.ensures.0 refl)) c.inside.ensures.shapes c.inside.ensures.held
      c.inside-then-are_alike.ensures.shapes c.inside-then-are_alike.ensures.held (c.are_equal.ensures.0 is),
  λ same.
      c.are_equal.ensures.1
      (equal_inside c.args.self.now c.args.other.now c.inside.result.now c.inside-then-are_alike.result.now
      c.inside.ensures.shapes c.inside.ensures.held c.inside-then-are_alike.ensures.shapes c.inside-then-are_alike.ensures.held same),
)

pub returns-then-are_alike-clause-gives : goal.returns-then-are_alike-clause-gives
returns-then-are_alike-clause-gives c =
    test_is_same c.args.self.now c.args.other.now c.are_equal.result (
      λ is.
          equal_by_inside c.args.self.now c.args.other.now c.inside.result.now c.inside-then-are_alike.result.now
          (c.alike_are_equal.ensures (c.if-are_alike.ensures.0 refl)) c.inside.ensures.shapes c.inside.ensures.held
          c.inside-then-are_alike.ensures.shapes c.inside-then-are_alike.ensures.held (c.are_equal.ensures.0 is),
      λ same.
          c.are_equal.ensures.1
          (equal_inside c.args.self.now c.args.other.now c.inside.result.now c.inside-then-are_alike.result.now
          c.inside.ensures.shapes c.inside.ensures.held c.inside-then-are_alike.ensures.shapes c.inside-then-are_alike.ensures.held same),
    )

pub returns-else-are_alike-clause-gives : goal.returns-else-are_alike-clause-gives
returns-else-are_alike-clause-gives c =
    test_is_same c.args.self.now c.args.other.now c.are_alike.result (
      λ is. absurd (false≢true (sym c.if-are_alike.false ∙ is)),
      λ same. c.are_alike.ensures.1 (equal_alike c.args.self.now c.args.other.now same),
    )
