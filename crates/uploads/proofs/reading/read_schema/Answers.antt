use Rattle.std.proofs.Common.{subst, sym, ◌∙◌}
use Rattle.std.proofs.lemmas.Bool.{false≢true}
use Rattle.std.proofs.lemmas.Result.{err_from_is_err_and}
use Rattle.header_types.specs.Views.{schema_of}
use Rattle.uploads.specs.Read.{IsSchemaText}
use Rattle.uploads.proofs.Shown.{schema_shows}
use Rattle.uploads.proofs.reading.read_schema.Goals as goal

pub returns-in_err-schema-clause-fault : goal.returns-in_err-schema-clause-fault
returns-in_err-schema-clause-fault c =
    let p = err_from_is_err_and c.from_residual.result c.from_residual.ensures.1 in
    rw (p.1, p.2)
    (λ is schema are. c.in_err-schema.ensures.fault is schema (schema_shows c.written_headers_are_shown.ensures c.args.bytes.now schema are))

pub is_schema_text-requires : goal.is_schema_text-requires
is_schema_text-requires c = record {
  profile = c.shown_schemas_are_in_profile.ensures c.args.bytes.now (schema_of c.in_ok-schema.schema) c.in_ok-schema.ensures.shown;
}

pub returns-then-branch-clause-only : goal.returns-then-branch-clause-only
returns-then-branch-clause-only c = λ other are. c.in_ok-schema.ensures.only other (schema_shows c.written_headers_are_shown.ensures c.args.bytes.now other are)

pub returns-else-branch-clause-fault : goal.returns-else-branch-clause-fault
returns-else-branch-clause-fault c = λ is schema are.
    let same = c.in_ok-schema.ensures.only schema (schema_shows c.written_headers_are_shown.ensures c.args.bytes.now schema are) in
    false≢true (sym c.if-branch.false ∙ c.in_ok-is_schema_text.ensures.1 (subst (IsSchemaText c.args.bytes.now) (sym same) are))
