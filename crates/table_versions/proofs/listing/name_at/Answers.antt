use Rattle.std.proofs.Common.{◌≡◌, Some, sym, ap, ◌∙◌, slice_get, string_bytes}
use Rattle.table_versions.specs.Ledger.{names_in}
use Rattle.table_versions.proofs.Listed.{name_there}
use Rattle.table_versions.proofs.States.{if_ok}
use Rattle.table_versions.proofs.listing.name_at.Goals as goal

pub returns : goal.returns
returns c =
    if_ok (λ t. string_bytes t ≡ c.as_str.result.now) (λ name. slice_get (names_in c.args.tables.now.entries) c.args.number ≡ Some (string_bytes name)) c.from_str.result
    (λ t is. name_there c.args.tables.now.entries c.args.number c.in-Some.name.now c.in-Some.field-0-1.now (sym c.in-Some.ensures.entry)
    ∙ ap Some (sym (is ∙ c.as_str.ensures.value))) c.from_str.ensures.ok
