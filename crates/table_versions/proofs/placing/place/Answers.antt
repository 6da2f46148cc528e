use Rattle.std.proofs.Common.{◌≡◌, refl, sym, ap, subst, ◌∙◌, Some, string_bytes}
use Rattle.table_versions.specs.Ledger.{table_in}
use Rattle.table_versions.specs.Steps.{AddsVersion}
use Rattle.table_versions.proofs.Placed.{some_is, none_is_some, tells_some, room_some}
use Rattle.table_versions.proofs.placing.place.Goals as goal

pub add_version-requires-clause-there : goal.add_version-requires-clause-there
add_version-requires-clause-there c =
    let entries = c.args.tables.now.entries in
    let told = tells_some (table_in c.args.tables.now.entries c.as_str.result.now) c.as_slice.result.now c.in-Some-true.field-0 c.in-Some-true.ensures in
    let named : table_in c.args.tables.now.entries (string_bytes c.args.name) ≡ Some told.0 =
    ap (table_in c.args.tables.now.entries) (sym c.as_str.ensures.value) ∙ told.1
    in (
      told.0,
      ap (table_in c.args.tables.now.entries) c.as_str-in-Some-true.ensures.value ∙ named,
      room_some (table_in c.args.tables.now.entries (string_bytes c.args.name)) told.0 c.args.part named c.requires.numbers,
    )

pub returns-in-Some-true-clause-places : goal.returns-in-Some-true-clause-places
returns-in-Some-true-clause-places c =
    let told = tells_some (table_in c.args.tables.now.entries c.as_str.result.now) c.as_slice.result.now c.in-Some-true.field-0 c.in-Some-true.ensures in
    let named : table_in c.args.tables.now.entries (string_bytes c.args.name) ≡ Some told.0 =
    ap (table_in c.args.tables.now.entries) (sym c.as_str.ensures.value) ∙ told.1
    in
    record {
      first = λ none. absurd (none_is_some told.0 (sym none ∙ named));
      like = λ old there shape. (
        c.add_version.result,
        subst (λ n. AddsVersion c.args.tables.now.entries c.add_version.new.tables.entries c.args.frames.now.entries c.add_version.new.frames.entries n c.args.part old c.add_version.result)
            c.as_str-in-Some-true.ensures.value
            (c.add_version.ensures.adds old (ap (table_in c.args.tables.now.entries) c.as_str-in-Some-true.ensures.value ∙ there)),
        refl,
      );
      unlike = λ old there differ.
          let same : told.0 ≡ old = some_is told.0 old (sym named ∙ there) in
          absurd (differ (subst (λ t. t.shape ≡ c.args.part.shape) same (told.2.0 c.in-Some-true.field-0-test ∙ c.as_slice.ensures)));
    }
