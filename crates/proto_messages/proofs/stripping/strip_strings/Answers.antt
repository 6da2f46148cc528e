use Rattle.std.proofs.Common.{None}
use Rattle.std.specs.String.{string_bytes}
use Rattle.proto_messages.specs.Canonical.{bytes_field}
use Rattle.proto_messages.proofs.Strips.{element_goes_on, element_is_not, elements_over}
use Rattle.proto_messages.proofs.CallerLemmas.{gave_up}
use Rattle.proto_messages.proofs.stripping.strip_strings.Goals as goal

pub loop-value-preserved : goal.loop-value-preserved
loop-value-preserved c = λ left later.
    c.loop-value.invariant left
    (element_goes_on string_bytes (bytes_field c.args.number) c.args.values.now c.loop-value.value-index c.value-item.result c.loop-value.rest.now c.in_ok-rest.rest.now
    c.loop-value-test.true c.value-item.is c.in_ok-rest.ensures left later)

pub returns-in_err-rest : goal.returns-in_err-rest
returns-in_err-rest c =
    gave_up _ _ c.from_residual.result c.from_residual.ensures
    (c.loop-value.invariant None
    (element_is_not string_bytes (bytes_field c.args.number) c.args.values.now c.loop-value.value-index c.value-item.result c.loop-value.rest.now
    c.loop-value-test.true c.value-item.is c.in_err-rest.ensures))

pub returns : goal.returns
returns c = c.loop-value.invariant _ (elements_over string_bytes (bytes_field c.args.number) c.args.values.now c.loop-value.value-index c.loop-value.rest.now c.loop-value-test.false)
