use Rattle.std.proofs.Common.{sym, subst}
use Rattle.table_versions.specs.State.{HasTaken}
use Rattle.table_versions.proofs.States.{ledger_of, on_err}
use Rattle.table_versions.proofs.tables.Tables.latest.Goals as goal

pub returns-clause-latest : goal.returns-clause-latest
returns-clause-latest c = λ values uploads taken are.
    c.latest_by.ensures.latest c.self.inside.firsts.entries c.self.inside.frames.entries uploads
    (ledger_of c.texts_hold_one_list_of_uploads.ensures.one _ values uploads (subst (λ s. HasTaken s values) (sym c.self.view_is) taken) are)

pub returns-clause-memory : goal.returns-clause-memory
returns-clause-memory c =
    on_err c.latest_by.result
    (λ there. λ values uploads taken are.
    there c.self.inside.firsts.entries c.self.inside.frames.entries uploads
    (ledger_of c.texts_hold_one_list_of_uploads.ensures.one _ values uploads (subst (λ s. HasTaken s values) (sym c.self.view_is) taken) are))
    c.latest_by.ensures.memory
