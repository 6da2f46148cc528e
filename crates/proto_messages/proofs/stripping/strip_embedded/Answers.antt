use Rattle.std.proofs.Common.{◌^◌, ◌<◌, length, arith}
use Rattle.proto_messages.proofs.Strips.{rest_is_shorter, no_length, no_message, other_length, message_stands}
use Rattle.proto_messages.proofs.CallerLemmas.{gave_up}
use Rattle.proto_messages.proofs.stripping.strip_embedded.Goals as goal

pub returns-in_err-length : goal.returns-in_err-length
returns-in_err-length g c =
    let short : length c.args.bytes.now < 2 ^ 64 = omega arith in
    gave_up _ _ c.from_residual-in_err-length.result c.from_residual-in_err-length.ensures
    (no_length c.args.number _ c.args.bytes.now c.in_ok-behind_key.behind_key.now short c.in_ok-behind_key.ensures c.in_err-length.ensures.none)

pub returns-in_err-rest : goal.returns-in_err-rest
returns-in_err-rest g c =
    let short : length c.args.bytes.now < 2 ^ 64 = omega arith in
    gave_up _ _ c.from_residual-in_err-rest.result c.from_residual-in_err-rest.ensures
    (no_message c.args.number _ c.args.bytes.now c.in_ok-behind_key.behind_key.now short c.in_ok-behind_key.ensures
    c.in_ok-length.length c.in_ok-length.content.now c.in_ok-length.ensures.some.0 c.in_ok-length.ensures.some.1 c.in_err-rest.ensures)

pub overflow_sub-content : goal.overflow_sub-content
overflow_sub-content g c = rest_is_shorter _ c.in_ok-length.content.now c.in_ok-rest.rest.now c.in_ok-rest.ensures

pub returns-then-content-rest : goal.returns-then-content-rest
returns-then-content-rest g c =
    let short : length c.args.bytes.now < 2 ^ 64 = omega arith in
    other_length c.args.number _ c.args.bytes.now c.in_ok-behind_key.behind_key.now short c.in_ok-behind_key.ensures
    c.in_ok-length.length c.in_ok-length.content.now c.in_ok-length.ensures.some.0 c.in_ok-length.ensures.some.1 c.in_ok-rest.rest.now c.in_ok-rest.ensures c.if-content-rest.true

pub returns : goal.returns
returns g c =
    let short : length c.args.bytes.now < 2 ^ 64 = omega arith in
    message_stands c.args.number _ c.args.bytes.now c.in_ok-behind_key.behind_key.now short c.in_ok-behind_key.ensures
    c.in_ok-length.length c.in_ok-length.content.now c.in_ok-length.ensures.some.0 c.in_ok-length.ensures.some.1 c.in_ok-rest.rest.now c.in_ok-rest.ensures c.if-content-rest.false
