use Rattle.std.proofs.Common.{List, ℕ, sym, subst}
use Rattle.record_sums.specs.Entering.{AreEntries}
use Rattle.record_sums.proofs.Entries.{found_misfit}
use Rattle.record_sums.proofs.checking.first_misfit.Goals as goal

pub returns : goal.returns
returns c =
    let are = subst (λ (l : List (List ℕ)). AreEntries l c.args.records.now) (sym c.as_slice.ensures.value) c.in_ok-entries.ensures in
    found_misfit c.args.sums.now c.as_slice.result.now c.args.records.now c.first_wrong.result are
    c.first_wrong.ensures.none c.first_wrong.ensures.first c.first_wrong.ensures.before
