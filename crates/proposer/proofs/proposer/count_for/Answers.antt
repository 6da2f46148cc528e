use Rattle.std.proofs.Common.{arith, refl}
use Rattle.std.proofs.lemmas.Grind.{common_steps}
use Rattle.proposer.specs.Call.{Promise, Promises}
use Rattle.proposer.proofs.Answering.{plain_idle, plain_told, plain_for, plain_ahead, holds_idle, answers_idle, holds_taken, answers_value, answers_nothing}
use Rattle.proposer.proofs.proposer.count_for.Goals as goal

pub returns-then-not-would_count-clause-answers : goal.returns-then-not-would_count-clause-answers
returns-then-not-would_count-clause-answers c = λ calls holds.
    let promise : Promise = record { sender = c.args.sender; slot = c.args.slot; ballot = c.args.ballot; report = c.args.report } in
    answers_idle c.args.members calls (Promises promise) c.args.attempt.now holds (plain_idle c.args.members calls promise c.args.attempt.now holds (grind (arith, common_steps)))

pub returns-then-not-would_count-clause-stands : goal.returns-then-not-would_count-clause-stands
returns-then-not-would_count-clause-stands c = λ calls holds.
    let promise : Promise = record { sender = c.args.sender; slot = c.args.slot; ballot = c.args.ballot; report = c.args.report } in
    holds_idle c.args.members calls (Promises promise) c.args.attempt.now holds (plain_idle c.args.members calls promise c.args.attempt.now holds (grind (arith, common_steps))) refl refl

pub returns-in_err-value-clause-answers : goal.returns-in_err-value-clause-answers
returns-in_err-value-clause-answers c = λ calls holds.
    let promise : Promise = record { sender = c.args.sender; slot = c.args.slot; ballot = c.args.ballot; report = c.args.report } in
    let taken = c.would_count.ensures.0 c.if-not-would_count.false in
    rw c.from_residual.ensures
    (answers_nothing c.args.members calls (Promises promise) c.args.attempt.now holds promise (plain_told c.args.members calls promise c.args.attempt.now holds taken) (plain_for c.args.members calls promise c.args.attempt.now holds taken)
    (λ candidate promises counts. c.in_err-value.ensures.gives candidate promises promise refl refl counts))

pub returns-in_err-value-clause-stands : goal.returns-in_err-value-clause-stands
returns-in_err-value-clause-stands c = λ calls holds.
    let promise : Promise = record { sender = c.args.sender; slot = c.args.slot; ballot = c.args.ballot; report = c.args.report } in
    let taken = c.would_count.ensures.0 c.if-not-would_count.false in
    holds_taken c.args.members calls (Promises promise) c.args.attempt.now holds promise (plain_told c.args.members calls promise c.args.attempt.now holds taken) (plain_for c.args.members calls promise c.args.attempt.now holds taken)
    refl c.count.new.self c.count.ensures.slot c.count.ensures.ballot
    (λ candidate promises counts. c.count.ensures.counts candidate promises promise refl refl counts)
    (plain_ahead c.args.members calls promise c.args.attempt.now holds taken c.count.new.self c.count.ensures.ahead)

pub returns-clause-answers : goal.returns-clause-answers
returns-clause-answers c = λ calls holds.
    let promise : Promise = record { sender = c.args.sender; slot = c.args.slot; ballot = c.args.ballot; report = c.args.report } in
    let taken = c.would_count.ensures.0 c.if-not-would_count.false in
    answers_value c.args.members calls (Promises promise) c.args.attempt.now holds promise (plain_told c.args.members calls promise c.args.attempt.now holds taken) (plain_for c.args.members calls promise c.args.attempt.now holds taken)
    c.args.slot c.args.ballot c.in_ok-value.value taken.slot_is taken.ballot_is
    (λ candidate promises counts. c.in_ok-value.ensures.gives candidate promises promise refl refl counts)

pub returns-clause-stands : goal.returns-clause-stands
returns-clause-stands c = λ calls holds.
    let promise : Promise = record { sender = c.args.sender; slot = c.args.slot; ballot = c.args.ballot; report = c.args.report } in
    let taken = c.would_count.ensures.0 c.if-not-would_count.false in
    holds_taken c.args.members calls (Promises promise) c.args.attempt.now holds promise (plain_told c.args.members calls promise c.args.attempt.now holds taken) (plain_for c.args.members calls promise c.args.attempt.now holds taken)
    refl c.count.new.self c.count.ensures.slot c.count.ensures.ballot
    (λ candidate promises counts. c.count.ensures.counts candidate promises promise refl refl counts)
    (plain_ahead c.args.members calls promise c.args.attempt.now holds taken c.count.new.self c.count.ensures.ahead)
