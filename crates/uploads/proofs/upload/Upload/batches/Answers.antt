use Rattle.std.proofs.Common.{sym, subst, ◌∙◌}
use Rattle.std.specs.List.{AllByRecursion}
use Rattle.header_types.specs.Profile.{InProfile}
use Rattle.header_types.specs.Views.{schema_of}
use Rattle.batch_columns.specs.Batches.{IsBatchOf}
use Rattle.uploads.proofs.Reread.{batches_short, same_can, same_left}
use Rattle.uploads.proofs.upload.Upload.batches.Goals as goal

pub written_batches-requires : goal.written_batches-requires
written_batches-requires c =
    let u = c.self.invariant.0 in
    let is = c.self.invariant.1.0 in
    let left = (c.parts_of-parts.ensures u is (c.self.invariant.1.1 ∙ sym c.as_slice.ensures)).batches_are in
    let same = c.in_ok-schema.ensures u is (c.self.invariant.1.1 ∙ c.self.view_is) in
    record {
      profile = subst InProfile (sym same) is.profile;
      short = batches_short u is c.parts_of-parts.result.batches.now left;
      known = (u.batches, same_can (schema_of c.in_ok-schema.schema) u same is, same_left (schema_of c.in_ok-schema.schema) u c.parts_of-parts.result.batches.now same left);
    }

pub returns-in-Ok-clause-rows : goal.returns-in-Ok-clause-rows
returns-in-Ok-clause-rows c = λ u is encoded.
    let left = (c.parts_of-parts.ensures u is (encoded ∙ sym c.self.view_is ∙ sym c.as_slice.ensures)).batches_are in
    let same = c.in_ok-schema.ensures u is encoded in
    c.in-Ok.ensures.rows u.batches (same_can (schema_of c.in_ok-schema.schema) u same is)
    (same_left (schema_of c.in_ok-schema.schema) u c.parts_of-parts.result.batches.now same left)

pub returns-in-Ok-clause-of_schema : goal.returns-in-Ok-clause-of_schema
returns-in-Ok-clause-of_schema c = λ u is encoded.
    subst (λ s. AllByRecursion (IsBatchOf s) c.in-Ok.batches.items) (c.in_ok-schema.ensures u is encoded) c.in-Ok.ensures.of_schema
