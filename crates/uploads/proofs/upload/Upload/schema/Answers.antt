use Rattle.std.proofs.Common.{sym, ◌∙◌}
use Rattle.uploads.proofs.Reread.{if_ok}
use Rattle.uploads.proofs.upload.Upload.schema.Goals as goal

pub written_schema-requires : goal.written_schema-requires
written_schema-requires c =
    let u = c.self.invariant.0 in
    let is = c.self.invariant.1.0 in
    let parts = c.parts_of-parts.ensures u is (c.self.invariant.1.1 ∙ sym c.as_slice.ensures) in
    record { known = (u.schema, record { profile = is.profile; fits = is.schema_fits; is = parts.schema_is }) }

pub returns : goal.returns
returns c = λ upload is same.
    let parts = c.parts_of-parts.ensures upload is (same ∙ sym c.self.view_is ∙ sym c.as_slice.ensures) in
    if_ok c.written_schema.result _ _ (λ schema only. only upload.schema (record { profile = is.profile; fits = is.schema_fits; is = parts.schema_is })) c.written_schema.ensures
