use Rattle.std.proofs.Common.{ℕ, ◌<◌, ◌≤ℤ◌, pos, length, get_or, refl, List, ℤ, subst, sym, w64, FitsSigned, rules}
use Rattle.std.proofs.lemmas.Int.{to_z-of_z}
use Rattle.batch_types.specs.LaysOut.{values_limit, rows_limit}
use Rattle.batch_checking.proofs.head.has_rows_within.Goals as goal

abbrev All : List (ℤ × ℤ) → Type 0
All nodes = (k : ℕ) → k < length nodes → (pos 0 ≤ℤ (get_or nodes k (pos 0, pos 0)).0) × ((get_or nodes k (pos 0, pos 0)).0 ≤ℤ pos values_limit)

pub returns : goal.returns
returns c = (
  λ yes.
      let all : All c.args.head.now.nodes.items = subst All c.as_slice.ensures.value (c.are_counted.ensures.0 yes) in
      let fits : FitsSigned w64 c.args.head.now.length = search rules in
      let rows = subst (λ z. (pos 0 ≤ℤ z) × (z ≤ℤ pos rows_limit)) (to_z-of_z w64 c.args.head.now.length fits) (c.if-not-is_row_count.ensures.0 refl) in record {
        counted = rows.0;
        few = rows.1;
        nodes_counted = λ k below. (all k below).0;
        nodes_few = λ k below. (all k below).1;
      },
  λ has. c.are_counted.ensures.1 (subst All (sym c.as_slice.ensures.value) (λ k below. (has.nodes_counted k below, has.nodes_few k below))),
)
