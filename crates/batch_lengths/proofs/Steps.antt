-- One value more of a run.
use Rattle.std.proofs.Common.{◌≡◌, refl, sym, ap, subst, ◌∙◌, ℕ, ◌+◌, ◌^◌, ◌<◌, ◌||◌, List, ◌++◌}
use Rattle.batch_columns.specs.declared.encoded_column.EncodedColumn.{EncodedColumn}
use Rattle.batch_reading.specs.Spots.{Spot}
use Rattle.batch_lengths.specs.declared.counted.Counted.{Counted}
use Rattle.batch_lengths.specs.Along.{run_spots}
use Rattle.batch_lengths.specs.Counted.{IsCounted}
use Rattle.batch_lengths.proofs.Parts.{run_both, counted_both}

module _ (s : EncodedColumn) (f : List Spot → List Spot) (both : (xs ys : List Spot) → f (xs ++ ys) ≡ f xs ++ f ys) (start done place : ℕ) (at : start + done ≡ place)
    (a b : Counted) (before : IsCounted s (f (run_spots start done)) a) (one : IsCounted s (f (run_spots place 1)) b) where
  pub next_counted : (c : Counted) → c.has_null ≡ (a.has_null || b.has_null) → c.total ≡ a.total + b.total → IsCounted s (f (run_spots start (done + 1))) c
  next_counted c nulls lengths =
      subst (λ l. IsCounted s l c)
      (sym (ap f (run_both start done 1 ∙ ap (λ p. run_spots start done ++ run_spots p 1) at) ∙ both (run_spots start done) (run_spots place 1)))
      (counted_both s (f (run_spots start done)) (f (run_spots place 1)) a b c before one nulls lengths)

  pub next_fits : ((c : Counted) → IsCounted s (f (run_spots start (done + 1))) c → c.total < 2 ^ 64) → a.total + b.total < 2 ^ 64
  next_fits fits =
      let c : Counted = record { has_null = a.has_null || b.has_null; total = a.total + b.total } in
      fits c (next_counted c refl refl)
