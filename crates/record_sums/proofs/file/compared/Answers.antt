use Rattle.std.proofs.Common.{List, ℕ, Option, MatchOption, sym, subst}
use Rattle.record_sums.specs.Sums.{Fits, IsFirstMisfit}
use Rattle.record_sums.specs.Entering.{AreEntries}
use Rattle.record_sums.proofs.Entries.{found_misfit}
use Rattle.record_sums.proofs.file.compared.Goals as goal

pub returns-in-None : goal.returns-in-None
returns-in-None c =
    let found = c.args.found.now in
    let records = c.args.records.now in
    let are = subst (λ (l : List (List ℕ)). AreEntries l records) (sym c.as_slice.ensures.value) c.in_ok-entries.ensures in (
      c.in_ok-entries.ensures,
      subst (λ (o : Option ℕ). MatchOption o (Fits found records) (IsFirstMisfit found records)) c.in-None.is
          (found_misfit found c.as_slice.result.now records c.first_wrong.result are
          c.first_wrong.ensures.none c.first_wrong.ensures.first c.first_wrong.ensures.before),
    )

pub returns-in-Some : goal.returns-in-Some
returns-in-Some c =
    let found = c.args.found.now in
    let records = c.args.records.now in
    let are = subst (λ (l : List (List ℕ)). AreEntries l records) (sym c.as_slice.ensures.value) c.in_ok-entries.ensures in (
      c.in-Some.field-0,
      subst (λ (o : Option ℕ). MatchOption o (Fits found records) (IsFirstMisfit found records)) c.in-Some.is
          (found_misfit found c.as_slice.result.now records c.first_wrong.result are
          c.first_wrong.ensures.none c.first_wrong.ensures.first c.first_wrong.ensures.before),
    )
