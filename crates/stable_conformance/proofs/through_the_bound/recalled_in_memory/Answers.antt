use Rattle.std.proofs.Common.{◌++◌, refl, ap, ◌∙◌}
use Rattle.std.proofs.lemmas.Result.{IfOk-weaker}
use Rattle.stable_records.specs.MemoryStable.{finds_records}
use Rattle.stable_conformance.proofs.through_the_bound.recalled_in_memory.Goals as goal

pub returns-clause-recalled : goal.returns-clause-recalled
returns-clause-recalled c =
    IfOk-weaker c.keep_and_recall.result _ _
    (λ found recalled. recalled refl c.new-store.result (finds_records c.new-store.result)
    ∙ ap (λ l. l ++ c.args.told.now) c.new-store.ensures)
    c.keep_and_recall.ensures.recalled
