use Rattle.std.proofs.Common.{refl, ap, inl, inr, rules, Option, option_map}
use Rattle.std.proofs.lemmas.Result.{err_from_is_err_and}
use Rattle.header_types.specs.Views.{schema_of}
use Rattle.call_reading.proofs.Batches.{opening_schema, opens_some, way_opened}
use Rattle.call_reading.proofs.upload_builder.UploadBuilder.open.Goals as goal

pub returns-in_err-schema-clause-fault : goal.returns-in_err-schema-clause-fault
returns-in_err-schema-clause-fault c =
    let p = err_from_is_err_and c.from_residual-in_err-schema.result c.from_residual-in_err-schema.ensures.1 in
    rw (p.1, p.2)
    (inl (opening_schema c.args.message.now _ _ c.in_err-schema.field-0.0 c.in_ok-data.ensures.read refl c.in_err-schema.ensures.fault))

pub returns-clause-on_its_way : goal.returns-clause-on_its_way
returns-clause-on_its_way c =
    way_opened _ _ c.in_ok-table.table.now c.in_ok-table.ensures.named c.in_ok-table-2.ensures.ok
    (c.shown_schemas_are_in_profile.ensures _ (schema_of c.in_ok-schema.schema) c.in_ok-schema.ensures.shown) c.new.ensures.items refl refl

pub returns-in_err-table-2-clause-fault : goal.returns-in_err-table-2-clause-fault
returns-in_err-table-2-clause-fault c =
    let p = err_from_is_err_and c.from_residual-in_err-table-2.result c.from_residual-in_err-table-2.ensures.1 in
    let opens = opens_some c.args.message.now _ _ _ _ _ (schema_of c.in_ok-schema.schema) c.in_ok-data.ensures.read
    (search rules steps 300000) c.in_ok-table.ensures.named refl c.in_ok-schema.ensures.shown in
    rw p.1 (inr (opens, p.2))
