use Rattle.std.proofs.Common.{None, Some, refl}
use Rattle.proposer.proofs.Further.{has_next, gives, holds_further}
use Rattle.proposer.proofs.ranged.go_on_for.Goals as goal

pub returns-in_err-next_for-clause-answers : goal.returns-in_err-next_for-clause-answers
returns-in_err-next_for-clause-answers c = λ members calls holds. rw c.from_residual.ensures (c.in_err-next_for.ensures members calls holds)

pub returns-in_err-slot-clause-answers : goal.returns-in_err-slot-clause-answers
returns-in_err-slot-clause-answers c = λ members calls holds.
    rw c.from_residual-in_err-slot.ensures
    (gives members calls c.args.attempt.now holds c.args.candidate None (has_next members calls c.args.attempt.now holds (Some c.in_ok-next_for.field-0) refl (c.in_ok-next_for.ensures members calls holds)) c.in_err-slot.ensures.gives)

pub returns-clause-answers : goal.returns-clause-answers
returns-clause-answers c = λ members calls holds.
    gives members calls c.args.attempt.now holds c.args.candidate (Some (c.in_ok-slot.slot, c.in_ok-slot.value)) (has_next members calls c.args.attempt.now holds (Some c.in_ok-next_for.field-0) refl (c.in_ok-next_for.ensures members calls holds)) c.in_ok-slot.ensures.gives

pub returns-clause-stands : goal.returns-clause-stands
returns-clause-stands c = λ members calls holds.
    holds_further members calls c.args.attempt.now holds c.args.candidate (c.in_ok-slot.slot, c.in_ok-slot.value) c.go_on.new.self c.go_on.ensures.slot c.go_on.ensures.ballot c.go_on.ensures.counted c.go_on.ensures.choice c.in_ok-slot.ensures.moves
