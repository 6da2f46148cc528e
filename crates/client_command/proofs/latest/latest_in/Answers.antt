use Rattle.std.proofs.Common.{◌≡◌, ◌∷◌, [], map, sym, ap, ◌∙◌, arith}
use Rattle.proto_wire.specs.FlightValues.{endpoint_values, info_values}
use Rattle.client_command.proofs.Endpoints.{is_one_list, one_says}
use Rattle.client_command.proofs.latest.latest_in.Goals as goal

pub returns-in-len1 : goal.returns-in-len1
returns-in-len1 c =
    let one : c.as_slice.result.now ≡ c.endpoint-item.result ∷ []
    = is_one_list c.as_slice.result.now c.endpoint-item.result (omega arith) c.endpoint-item.is in
    one_says c.args.table.now (info_values c.args.info.now) (endpoint_values c.endpoint-item.result) c.endpoint_ticket.result (ap (map endpoint_values) (sym c.as_slice.ensures.value ∙ one))
    c.endpoint_ticket.ensures
