use Rattle.std.proofs.lemmas.Result.{err_from_is_err_and}
use Rattle.proto_wire.specs.FlightValues.{info_values}
use Rattle.client_command.proofs.Joined.{no_schema, no_version}
use Rattle.client_command.proofs.tables.info_text.Goals as goal

pub returns-in_err-latest : goal.returns-in_err-latest
returns-in_err-latest c =
    let p = err_from_is_err_and c.from_residual.result c.from_residual.ensures.1 in
    rw (p.1, p.2)
    (no_version (info_values c.args.info.now) c.args.table.now c.in_err-latest.field-0.0 c.in_err-latest.ensures)

pub returns-in_err-schema : goal.returns-in_err-schema
returns-in_err-schema c =
    let p = err_from_is_err_and c.from_residual-in_err-schema.result c.from_residual-in_err-schema.ensures.1 in
    rw (p.1, p.2)
    (no_schema (info_values c.args.info.now) c.args.table.now c.deref.result.now c.in_err-schema.field-0.0 c.deref.ensures.value c.in_err-schema.ensures)
