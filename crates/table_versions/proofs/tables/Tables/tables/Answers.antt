use Rattle.std.proofs.Common.{◌≡◌, sym, subst, ◌∙◌, map, string_bytes}
use Rattle.table_types.specs.Tables.{table_names}
use Rattle.table_versions.specs.Ledger.{names_in}
use Rattle.table_versions.specs.State.{HasTaken}
use Rattle.table_versions.proofs.States.{ledger_of, if_ok, on_err}
use Rattle.table_versions.proofs.tables.Tables.tables.Goals as goal

pub returns-clause-names : goal.returns-clause-names
returns-clause-names c = λ values uploads taken are.
    if_ok (λ names. map string_bytes names.items ≡ names_in c.self.inside.tables.entries) (λ names. map string_bytes names.items ≡ table_names uploads) c.names_by.result
    (λ names is. is
    ∙ (ledger_of c.texts_hold_one_list_of_uploads.ensures.one _ values uploads (subst (λ s. HasTaken s values) (sym c.self.view_is) taken) are).names_are)
    c.names_by.ensures.names

pub returns-clause-memory : goal.returns-clause-memory
returns-clause-memory c =
    on_err c.names_by.result
    (λ there. λ values uploads taken are none.
    there
    ((ledger_of c.texts_hold_one_list_of_uploads.ensures.one _ values uploads (subst (λ s. HasTaken s values) (sym c.self.view_is) taken) are).names_are ∙ none))
    c.names_by.ensures.memory
