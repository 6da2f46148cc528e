use Rattle.std.proofs.Common.{arith, refl, sym}
use Rattle.std.proofs.lemmas.Grind.{common_steps}
use Rattle.proposer.specs.Call.{Promise, Promises}
use Rattle.proposer.proofs.Results.{where_err}
use Rattle.proposer.proofs.Answering.{plain_idle, plain_told, plain_for, answers_idle, answers_value, answers_nothing, refused_value}
use Rattle.proposer.proofs.proposer.see_count_in.Goals as goal

pub returns-then-not-would_count-clause-answers : goal.returns-then-not-would_count-clause-answers
returns-then-not-would_count-clause-answers c = λ calls holds.
    let promise : Promise = record { sender = c.args.sender; slot = c.args.slot; ballot = c.args.ballot; report = c.args.report.now } in
    answers_idle c.args.members calls (Promises promise) c.args.attempt.now holds (plain_idle c.args.members calls promise c.args.attempt.now holds (grind (arith, common_steps)))

pub returns-in_err-value-clause-memory : goal.returns-in_err-value-clause-memory
returns-in_err-value-clause-memory c = where_err c.from_residual.result (λ calls holds.
    let promise : Promise = record { sender = c.args.sender; slot = c.args.slot; ballot = c.args.ballot; report = c.args.report.now } in
    let taken = c.would_count.ensures.0 c.if-not-would_count.false in
    refused_value c.args.members calls (Promises promise) c.args.attempt.now holds promise (plain_told c.args.members calls promise c.args.attempt.now holds taken) (plain_for c.args.members calls promise c.args.attempt.now holds taken)
    (λ candidate promises counts. c.in_err-value.ensures.memory candidate promises promise refl (sym c.as_ref.ensures.value) counts))

pub returns-in-Some-clause-answers : goal.returns-in-Some-clause-answers
returns-in-Some-clause-answers c = λ calls holds.
    let promise : Promise = record { sender = c.args.sender; slot = c.args.slot; ballot = c.args.ballot; report = c.args.report.now } in
    let taken = c.would_count.ensures.0 c.if-not-would_count.false in
    answers_value c.args.members calls (Promises promise) c.args.attempt.now holds promise (plain_told c.args.members calls promise c.args.attempt.now holds taken) (plain_for c.args.members calls promise c.args.attempt.now holds taken)
    c.args.slot c.args.ballot c.in-Some.value taken.slot_is taken.ballot_is
    (λ candidate promises counts. rw c.in-Some.is at (c.in_ok-value.ensures.gives candidate promises promise refl (sym c.as_ref.ensures.value) counts))

pub returns-in-None-clause-answers : goal.returns-in-None-clause-answers
returns-in-None-clause-answers c = λ calls holds.
    let promise : Promise = record { sender = c.args.sender; slot = c.args.slot; ballot = c.args.ballot; report = c.args.report.now } in
    let taken = c.would_count.ensures.0 c.if-not-would_count.false in
    answers_nothing c.args.members calls (Promises promise) c.args.attempt.now holds promise (plain_told c.args.members calls promise c.args.attempt.now holds taken) (plain_for c.args.members calls promise c.args.attempt.now holds taken)
    (λ candidate promises counts. rw c.in-None.is at (c.in_ok-value.ensures.gives candidate promises promise refl (sym c.as_ref.ensures.value) counts))
