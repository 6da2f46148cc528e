use Rattle.std.proofs.Common.{rules, ◌≡◌, length, map, Err, arith}
use Rattle.std.proofs.lemmas.List.{length-map}
use Rattle.proto_wire.specs.FlightValues.{location_values, endpoint_values}
use Rattle.table_types.specs.declared.fault.TicketFault.TheVariants.{BadTicket}
use Rattle.script_calls.proofs.Endpoints.{told_endpoint, this_one, other_one, bad_one}
use Rattle.script_calls.proofs.asking.endpoint_told.Goals as goal

pub returns-in-Ok : goal.returns-in-Ok
returns-in-Ok c =
    let uris = map location_values c.args.endpoint.now.location.items in
    let is = told_endpoint c.args.endpoint.now c.in-Some.ticket c.deref.result.now c.deref.ensures.value c.in-Some.is in
    let same : c.in-Ok.ticket.table ≡ c.args.table.now = search rules in
    let version : c.version.result ≡ c.in-Ok.ticket.version = search rules in
    let counted : c.len.result ≡ length uris = omega (arith, length-map c.args.endpoint.now.location.items location_values, c.len.ensures) in
    this_one c.args.table.now c.deref.result.now uris (endpoint_values c.args.endpoint.now) is c.in-Ok.ticket c.version.result c.len.result c.in-Ok.ensures.ticket same version counted

pub returns-in-Ok-2 : goal.returns-in-Ok-2
returns-in-Ok-2 c =
    let uris = map location_values c.args.endpoint.now.location.items in
    let is = told_endpoint c.args.endpoint.now c.in-Some.ticket c.deref.result.now c.deref.ensures.value c.in-Some.is in
    other_one c.args.table.now c.deref.result.now uris (endpoint_values c.args.endpoint.now) is c.tickets_have_one_encoding.ensures.one c.in-Ok.ticket c.in-Ok.ensures.ticket
    (λ same. search rules)

pub returns-in-Err-BadTicket : goal.returns-in-Err-BadTicket
returns-in-Err-BadTicket c =
    let uris = map location_values c.args.endpoint.now.location.items in
    let is = told_endpoint c.args.endpoint.now c.in-Some.ticket c.deref.result.now c.deref.ensures.value c.in-Some.is in
    let told : c.decode.result ≡ Err BadTicket = search rules in
    bad_one c.args.table.now c.deref.result.now uris (endpoint_values c.args.endpoint.now) is (c.decode.ensures.bad.0 told)
