use Rattle.std.proofs.Common.{sym, subst, arith}
use Rattle.table_versions.specs.State.{HasTaken}
use Rattle.table_versions.proofs.States.{ledger_of, on_err}
use Rattle.table_versions.proofs.Values.{uploads_few}
use Rattle.table_versions.proofs.tables.Tables.answer.Goals as goal

pub answer_by-requires-clause-ledger : goal.answer_by-requires-clause-ledger
answer_by-requires-clause-ledger c =
    let s = c.self.invariant in (
      c.self.inside.firsts.entries,
      s.1.uploads,
      s.1.ledger,
      omega (arith, s.1.few, uploads_few c.texts_hold_one_list_of_uploads.ensures.few s.0 s.1.uploads s.1.are),
    )

pub returns-clause-answer : goal.returns-clause-answer
returns-clause-answer c = λ values uploads taken are.
    rw (← c.table.ensures.value, ← c.version.ensures.value)
    (c.answer_by.ensures.answer c.self.inside.firsts.entries uploads
    (ledger_of c.texts_hold_one_list_of_uploads.ensures.one _ values uploads (subst (λ s. HasTaken s values) (sym c.self.view_is) taken) are))

pub returns-clause-memory : goal.returns-clause-memory
returns-clause-memory c =
    on_err c.answer_by.result
    (λ there. λ values uploads taken are.
    rw (← c.table.ensures.value, ← c.version.ensures.value)
    (there c.self.inside.firsts.entries uploads
    (ledger_of c.texts_hold_one_list_of_uploads.ensures.one _ values uploads (subst (λ s. HasTaken s values) (sym c.self.view_is) taken) are)))
    c.answer_by.ensures.memory
