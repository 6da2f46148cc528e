use Rattle.std.proofs.Common.{None, append-nil}
use Rattle.proto_messages.specs.Canonical.{bytes_field, canonical}
use Rattle.proto_messages.proofs.Strips.{element_goes_on, element_is_not, elements_over}
use Rattle.proto_messages.proofs.CallerLemmas.{gave_up}
use Rattle.proto_messages.proofs.stripping.strip_messages.Goals as goal

pub loop-message-preserved : goal.loop-message-preserved
loop-message-preserved g c = λ left later.
    c.loop-message.invariant left
    (element_goes_on g.M.ProtoMessage.values (λ value. bytes_field c.args.number (canonical g.M.ProtoMessage.descriptor value)) c.args.messages.now c.loop-message.message-index c.message-item.result c.loop-message.rest.now c.in_ok-rest.rest.now
    c.loop-message-test.true c.message-item.is (rw append-nil at c.in_ok-rest.ensures) left later)

pub returns-in_err-rest : goal.returns-in_err-rest
returns-in_err-rest g c =
    gave_up _ _ c.from_residual.result c.from_residual.ensures
    (c.loop-message.invariant None
    (element_is_not g.M.ProtoMessage.values (λ value. bytes_field c.args.number (canonical g.M.ProtoMessage.descriptor value)) c.args.messages.now c.loop-message.message-index c.message-item.result c.loop-message.rest.now
    c.loop-message-test.true c.message-item.is (rw append-nil at c.in_err-rest.ensures)))

pub returns : goal.returns
returns g c = c.loop-message.invariant _ (elements_over g.M.ProtoMessage.values (λ value. bytes_field c.args.number (canonical g.M.ProtoMessage.descriptor value)) c.args.messages.now c.loop-message.message-index c.loop-message.rest.now c.loop-message-test.false)
