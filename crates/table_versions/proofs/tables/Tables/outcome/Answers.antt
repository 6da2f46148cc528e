use Rattle.std.proofs.Common.{sym, subst, ◌∙◌}
use Rattle.table_versions.specs.State.{HasTaken}
use Rattle.table_versions.proofs.States.{ledger_of}
use Rattle.table_versions.proofs.tables.Tables.outcome.Goals as goal

pub returns : goal.returns
returns c = λ values uploads uploaded taken are valid text.
    c.told_of.ensures c.self.inside.tables.entries c.self.inside.frames.entries uploads uploaded
    (ledger_of c.texts_hold_one_list_of_uploads.ensures.one _ values uploads (subst (λ s. HasTaken s values) (sym c.self.view_is) taken) are) valid
    (sym (c.id.ensures uploaded valid text)) (text ∙ sym c.as_slice.ensures.value)
