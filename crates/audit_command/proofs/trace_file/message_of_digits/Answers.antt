use Rattle.std.proofs.Common.{sym, subst, ℕ, List}
use Rattle.ballots.specs.Message.{IsMessageText}
use Rattle.audit_command.proofs.TraceReading.{hex_means, read_as, refused_as}
use Rattle.audit_command.proofs.trace_file.message_of_digits.Goals as goal

pub returns-in-Ok-decode-clause-only : goal.returns-in-Ok-decode-clause-only
returns-in-Ok-decode-clause-only c = λ m h.
    read_as c.decode-2.result c.in-Ok-decode.message m c.in-Ok-decode.is
    (c.decode-2.ensures.only m (subst (λ (b : List ℕ). IsMessageText b m) (sym c.deref.ensures.value) (hex_means _ _ m c.in-Ok.ensures.ok h)))

pub returns-clause-only : goal.returns-clause-only
returns-clause-only c = λ m h.
    refused_as c.decode-2.result m c.in-Err-decode.fault c.fault_of.result c.in-Err-decode.is c.fault_of.ensures.memory.1
    (c.decode-2.ensures.only m (subst (λ (b : List ℕ). IsMessageText b m) (sym c.deref.ensures.value) (hex_means _ _ m c.in-Ok.ensures.ok h)))
