use Rattle.std.proofs.Common.{ap, Option}
use Rattle.std.specs.Option.{option_map}
use Rattle.std.proofs.lemmas.Result.{err_from_is_err_and}
use Rattle.proto_wire.specs.FlightValues.{descriptor_values, info_values}
use Rattle.proto_wire.specs.declared.flight.descriptor.FlightDescriptor.{FlightDescriptor}
use Rattle.client_command.proofs.Joined.{nothing_told}
use Rattle.client_command.proofs.tables.table_line.Goals as goal

pub returns-in_err-latest : goal.returns-in_err-latest
returns-in_err-latest c =
    let p = err_from_is_err_and c.from_residual.result c.from_residual.ensures.1 in
    rw (p.1, p.2)
    (nothing_told (info_values c.args.info.now) (descriptor_values c.in-Some.descriptor) c.in-Ok.table.now c.in_err-latest.field-0.0
    (ap (λ (d : Option FlightDescriptor). option_map descriptor_values d) c.in-Some.is) c.in-Ok.ensures.named c.in_err-latest.ensures)
