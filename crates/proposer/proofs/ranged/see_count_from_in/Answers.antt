use Rattle.std.proofs.Common.{◌≡◌, ℕ, true, false, refl, sym, ap, ◌∙◌}
use Rattle.proposer.specs.Call.{PromiseFrom, PromisesFrom}
use Rattle.proposer.specs.Reporting.{report_of, rises_from, said_of}
use Rattle.proposer.proofs.Results.{where_err}
use Rattle.proposer.proofs.Answering.{ranged_idle, ranged_told, ranged_for, answers_idle, answers_value, answers_nothing, refused_value}
use Rattle.proposer.proofs.ranged.see_count_from_in.Goals as goal

pub returns-then-not-rise_from-clause-answers : goal.returns-then-not-rise_from-clause-answers
returns-then-not-rise_from-clause-answers c = λ calls holds.
    let promise : PromiseFrom = record { sender = c.args.sender; slot = c.args.slot; ballot = c.args.ballot; reports = c.args.reports.now } in
    let falls : rises_from c.args.slot c.args.reports.now ≡ false = sym c.rise_from.ensures ∙ c.if-not-rise_from.true in
    answers_idle c.args.members calls (PromisesFrom promise) c.args.attempt.now holds (ranged_idle c.args.members calls promise c.args.attempt.now holds (λ yes taken. let no : false ≡ true = sym falls ∙ yes in absurd (cc)))

pub returns-then-not-would_count_from-clause-answers : goal.returns-then-not-would_count_from-clause-answers
returns-then-not-would_count_from-clause-answers c = λ calls holds.
    let promise : PromiseFrom = record { sender = c.args.sender; slot = c.args.slot; ballot = c.args.ballot; reports = c.args.reports.now } in
    answers_idle c.args.members calls (PromisesFrom promise) c.args.attempt.now holds (ranged_idle c.args.members calls promise c.args.attempt.now holds (λ yes taken. let no : false ≡ true = sym c.if-not-would_count_from.true ∙ c.would_count_from.ensures.1 taken in absurd (cc)))

pub returns-in_err-value-clause-memory : goal.returns-in_err-value-clause-memory
returns-in_err-value-clause-memory c = where_err c.from_residual.result (λ calls holds.
    let promise : PromiseFrom = record { sender = c.args.sender; slot = c.args.slot; ballot = c.args.ballot; reports = c.args.reports.now } in
    let rises : rises_from c.args.slot c.args.reports.now ≡ true = sym c.rise_from.ensures ∙ c.if-not-rise_from.false in
    let taken = c.would_count_from.ensures.0 c.if-not-would_count_from.false in
    refused_value c.args.members calls (PromisesFrom promise) c.args.attempt.now holds (said_of holds.begun.slot promise) (ranged_told c.args.members calls promise c.args.attempt.now holds rises taken holds.begun.slot) (ranged_for c.args.members calls promise c.args.attempt.now holds rises taken holds.begun.slot)
    (λ candidate promises counts. c.in_err-value.ensures.memory candidate promises (said_of holds.begun.slot promise) refl (ap (λ (s : ℕ). report_of s c.args.reports.now) (sym holds.slot_is ∙ taken.slot_is) ∙ sym (c.report_at.ensures rises)) counts))

pub returns-in-Some-clause-answers : goal.returns-in-Some-clause-answers
returns-in-Some-clause-answers c = λ calls holds.
    let promise : PromiseFrom = record { sender = c.args.sender; slot = c.args.slot; ballot = c.args.ballot; reports = c.args.reports.now } in
    let rises : rises_from c.args.slot c.args.reports.now ≡ true = sym c.rise_from.ensures ∙ c.if-not-rise_from.false in
    let taken = c.would_count_from.ensures.0 c.if-not-would_count_from.false in
    answers_value c.args.members calls (PromisesFrom promise) c.args.attempt.now holds (said_of holds.begun.slot promise) (ranged_told c.args.members calls promise c.args.attempt.now holds rises taken holds.begun.slot) (ranged_for c.args.members calls promise c.args.attempt.now holds rises taken holds.begun.slot)
    c.args.slot c.args.ballot c.in-Some.value taken.slot_is taken.ballot_is
    (λ candidate promises counts. rw c.in-Some.is at (c.in_ok-value.ensures.gives candidate promises (said_of holds.begun.slot promise) refl (ap (λ (s : ℕ). report_of s c.args.reports.now) (sym holds.slot_is ∙ taken.slot_is) ∙ sym (c.report_at.ensures rises)) counts))

pub returns-in-None-clause-answers : goal.returns-in-None-clause-answers
returns-in-None-clause-answers c = λ calls holds.
    let promise : PromiseFrom = record { sender = c.args.sender; slot = c.args.slot; ballot = c.args.ballot; reports = c.args.reports.now } in
    let rises : rises_from c.args.slot c.args.reports.now ≡ true = sym c.rise_from.ensures ∙ c.if-not-rise_from.false in
    let taken = c.would_count_from.ensures.0 c.if-not-would_count_from.false in
    answers_nothing c.args.members calls (PromisesFrom promise) c.args.attempt.now holds (said_of holds.begun.slot promise) (ranged_told c.args.members calls promise c.args.attempt.now holds rises taken holds.begun.slot) (ranged_for c.args.members calls promise c.args.attempt.now holds rises taken holds.begun.slot)
    (λ candidate promises counts. rw c.in-None.is at (c.in_ok-value.ensures.gives candidate promises (said_of holds.begun.slot promise) refl (ap (λ (s : ℕ). report_of s c.args.reports.now) (sym holds.slot_is ∙ taken.slot_is) ∙ sym (c.report_at.ensures rises)) counts))
