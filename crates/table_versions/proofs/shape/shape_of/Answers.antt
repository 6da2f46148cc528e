use Rattle.std.proofs.Common.{◌≡◌, refl, sym, ap, subst, ◌∙◌, vec_len, Result, Ok, Err, IfOk}
use Rattle.std.specs.Result.{MatchResult}
use Rattle.header_types.specs.declared.schema.Schema.{Schema}
use Rattle.header_types.specs.Profile.{InProfile}
use Rattle.header_types.specs.Views.{schema_of}
use Rattle.table_types.specs.Uploads.{schema_text}
use Rattle.table_versions.proofs.BareFields.{IsBare, no_entries, bare_itself, bare_schema_is}
use Rattle.table_versions.proofs.BareSchemas.{bare_profile}
use Rattle.table_versions.proofs.shape.shape_of.Goals as goal

pub message_of-requires : goal.message_of-requires
message_of-requires c =
    let bare : Schema = record { fields = c.in_ok-fields.fields; metadata = c.new-metadata.result } in
    subst InProfile (sym (bare_schema_is c.args.schema bare c.in_ok-fields.ensures c.new-metadata.ensures.items)) (bare_profile (schema_of c.args.schema) c.requires.profile)

copied : {T E : Type 0} (r : Result T E) (own other : T) → MatchResult r (λ copy. copy ≡ own) (λ _. ¬ ⊥) → own ≡ other → IfOk r (λ copy. copy ≡ other)
copied (Ok copy) own other is same = is ∙ same
copied (Err refused) own other is same = tt

pub returns-then-are_bare : goal.returns-then-are_bare
returns-then-are_bare c =
    let own = bare_itself c.args.schema
    (no_entries c.args.schema.metadata.items (vec_len c.args.schema.metadata) c.args.schema.metadata.ok.0 c.if-is_empty.ensures)
    (subst IsBare c.deref.ensures.value (c.if-are_bare.ensures refl)) in
    copied c.clone.result c.args.message.now _ c.clone.ensures.cases (c.requires.message ∙ ap schema_text (sym own))

pub returns : goal.returns
returns c =
    let bare : Schema = record { fields = c.in_ok-fields.fields; metadata = c.new-metadata.result } in
    subst (λ s. IfOk c.message_of.result (λ shape. shape ≡ schema_text s)) (bare_schema_is c.args.schema bare c.in_ok-fields.ensures c.new-metadata.ensures.items)
    c.message_of.ensures
