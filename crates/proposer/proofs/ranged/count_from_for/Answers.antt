use Rattle.std.proofs.Common.{◌≡◌, ℕ, suc, option_map, List, true, false, refl, sym, ap, subst, ◌∙◌}
use Rattle.ballots.specs.declared.acceptance.Acceptance.{Acceptance}
use Rattle.proposer.specs.Call.{PromiseFrom, PromisesFrom}
use Rattle.proposer.specs.Reporting.{report_of, rises_from, said_of}
use Rattle.proposer.specs.Kept.{from_slot, with_reports}
use Rattle.proposer.proofs.Answering.{ranged_idle, ranged_told, ranged_for, holds_idle, answers_idle, holds_taken, answers_value, answers_nothing}
use Rattle.proposer.proofs.Further.{has_room, ranged_ahead}
use Rattle.proposer.proofs.ranged.count_from_for.Goals as goal

pub returns-then-not-rise_from-clause-answers : goal.returns-then-not-rise_from-clause-answers
returns-then-not-rise_from-clause-answers c = λ calls holds.
    let promise : PromiseFrom = record { sender = c.args.sender; slot = c.args.slot; ballot = c.args.ballot; reports = c.args.reports.items } in
    let falls : rises_from c.args.slot c.args.reports.items ≡ false = subst (λ (l : List (ℕ × Acceptance)). rises_from c.args.slot l ≡ false) c.as_slice.ensures.value (sym c.rise_from.ensures ∙ c.if-not-rise_from.true) in
    answers_idle c.args.members calls (PromisesFrom promise) c.args.attempt.now holds (ranged_idle c.args.members calls promise c.args.attempt.now holds (λ yes taken. let no : false ≡ true = sym falls ∙ yes in absurd (cc)))

pub returns-then-not-rise_from-clause-stands : goal.returns-then-not-rise_from-clause-stands
returns-then-not-rise_from-clause-stands c = λ calls holds.
    let promise : PromiseFrom = record { sender = c.args.sender; slot = c.args.slot; ballot = c.args.ballot; reports = c.args.reports.items } in
    let falls : rises_from c.args.slot c.args.reports.items ≡ false = subst (λ (l : List (ℕ × Acceptance)). rises_from c.args.slot l ≡ false) c.as_slice.ensures.value (sym c.rise_from.ensures ∙ c.if-not-rise_from.true) in
    holds_idle c.args.members calls (PromisesFrom promise) c.args.attempt.now holds (ranged_idle c.args.members calls promise c.args.attempt.now holds (λ yes taken. let no : false ≡ true = sym falls ∙ yes in absurd (cc))) refl refl

pub returns-then-not-would_count_from-clause-answers : goal.returns-then-not-would_count_from-clause-answers
returns-then-not-would_count_from-clause-answers c = λ calls holds.
    let promise : PromiseFrom = record { sender = c.args.sender; slot = c.args.slot; ballot = c.args.ballot; reports = c.args.reports.items } in
    answers_idle c.args.members calls (PromisesFrom promise) c.args.attempt.now holds (ranged_idle c.args.members calls promise c.args.attempt.now holds (λ yes taken. let no : false ≡ true = sym c.if-not-would_count_from.true ∙ c.would_count_from.ensures.1 taken in absurd (cc)))

pub returns-then-not-would_count_from-clause-stands : goal.returns-then-not-would_count_from-clause-stands
returns-then-not-would_count_from-clause-stands c = λ calls holds.
    let promise : PromiseFrom = record { sender = c.args.sender; slot = c.args.slot; ballot = c.args.ballot; reports = c.args.reports.items } in
    holds_idle c.args.members calls (PromisesFrom promise) c.args.attempt.now holds (ranged_idle c.args.members calls promise c.args.attempt.now holds (λ yes taken. let no : false ≡ true = sym c.if-not-would_count_from.true ∙ c.would_count_from.ensures.1 taken in absurd (cc))) refl refl

pub returns-in_err-value-clause-answers : goal.returns-in_err-value-clause-answers
returns-in_err-value-clause-answers c = λ calls holds.
    let promise : PromiseFrom = record { sender = c.args.sender; slot = c.args.slot; ballot = c.args.ballot; reports = c.args.reports.items } in
    let rises : rises_from c.args.slot c.args.reports.items ≡ true = subst (λ (l : List (ℕ × Acceptance)). rises_from c.args.slot l ≡ true) c.as_slice.ensures.value (sym c.rise_from.ensures ∙ c.if-not-rise_from.false) in
    let taken = c.would_count_from.ensures.0 c.if-not-would_count_from.false in
    rw c.from_residual.ensures
    (answers_nothing c.args.members calls (PromisesFrom promise) c.args.attempt.now holds (said_of holds.begun.slot promise) (ranged_told c.args.members calls promise c.args.attempt.now holds rises taken holds.begun.slot) (ranged_for c.args.members calls promise c.args.attempt.now holds rises taken holds.begun.slot)
    (λ candidate promises counts. c.in_err-value.ensures.gives candidate promises (said_of holds.begun.slot promise) refl (ap (λ (s : ℕ). report_of s c.args.reports.items) (sym holds.slot_is) ∙ ap (report_of c.args.attempt.now.slot) (sym c.new.ensures)) counts))

pub returns-in_err-value-clause-stands : goal.returns-in_err-value-clause-stands
returns-in_err-value-clause-stands c = λ calls holds.
    let promise : PromiseFrom = record { sender = c.args.sender; slot = c.args.slot; ballot = c.args.ballot; reports = c.args.reports.items } in
    let rises : rises_from c.args.slot c.args.reports.items ≡ true = subst (λ (l : List (ℕ × Acceptance)). rises_from c.args.slot l ≡ true) c.as_slice.ensures.value (sym c.rise_from.ensures ∙ c.if-not-rise_from.false) in
    let taken = c.would_count_from.ensures.0 c.if-not-would_count_from.false in
    holds_taken c.args.members calls (PromisesFrom promise) c.args.attempt.now holds (said_of holds.begun.slot promise) (ranged_told c.args.members calls promise c.args.attempt.now holds rises taken holds.begun.slot) (ranged_for c.args.members calls promise c.args.attempt.now holds rises taken holds.begun.slot)
    refl c.count_from.new.self c.count_from.ensures.slot c.count_from.ensures.ballot
    (λ candidate promises counts. c.count_from.ensures.counts candidate promises (said_of holds.begun.slot promise) refl (ap (λ (s : ℕ). report_of s c.args.reports.items) (sym holds.slot_is) ∙ ap (report_of c.args.attempt.now.slot) (sym c.new.ensures)) counts)
    (ranged_ahead c.args.members calls promise c.args.attempt.now holds rises taken c.count_from.new.self c.count_from.ensures.counted
    (c.count_from.ensures.ahead (has_room c.args.members calls promise c.args.attempt.now holds rises taken c.count-most.ensures.within.within) ∙ ap (λ (l : List (ℕ × Acceptance)). option_map (with_reports (from_slot (suc c.args.attempt.now.slot) l)) c.args.attempt.now.ahead) c.new.ensures))

pub returns-clause-answers : goal.returns-clause-answers
returns-clause-answers c = λ calls holds.
    let promise : PromiseFrom = record { sender = c.args.sender; slot = c.args.slot; ballot = c.args.ballot; reports = c.args.reports.items } in
    let rises : rises_from c.args.slot c.args.reports.items ≡ true = subst (λ (l : List (ℕ × Acceptance)). rises_from c.args.slot l ≡ true) c.as_slice.ensures.value (sym c.rise_from.ensures ∙ c.if-not-rise_from.false) in
    let taken = c.would_count_from.ensures.0 c.if-not-would_count_from.false in
    answers_value c.args.members calls (PromisesFrom promise) c.args.attempt.now holds (said_of holds.begun.slot promise) (ranged_told c.args.members calls promise c.args.attempt.now holds rises taken holds.begun.slot) (ranged_for c.args.members calls promise c.args.attempt.now holds rises taken holds.begun.slot)
    c.args.slot c.args.ballot c.in_ok-value.value taken.slot_is taken.ballot_is
    (λ candidate promises counts. c.in_ok-value.ensures.gives candidate promises (said_of holds.begun.slot promise) refl (ap (λ (s : ℕ). report_of s c.args.reports.items) (sym holds.slot_is) ∙ ap (report_of c.args.attempt.now.slot) (sym c.new.ensures)) counts)

pub returns-clause-stands : goal.returns-clause-stands
returns-clause-stands c = λ calls holds.
    let promise : PromiseFrom = record { sender = c.args.sender; slot = c.args.slot; ballot = c.args.ballot; reports = c.args.reports.items } in
    let rises : rises_from c.args.slot c.args.reports.items ≡ true = subst (λ (l : List (ℕ × Acceptance)). rises_from c.args.slot l ≡ true) c.as_slice.ensures.value (sym c.rise_from.ensures ∙ c.if-not-rise_from.false) in
    let taken = c.would_count_from.ensures.0 c.if-not-would_count_from.false in
    holds_taken c.args.members calls (PromisesFrom promise) c.args.attempt.now holds (said_of holds.begun.slot promise) (ranged_told c.args.members calls promise c.args.attempt.now holds rises taken holds.begun.slot) (ranged_for c.args.members calls promise c.args.attempt.now holds rises taken holds.begun.slot)
    refl c.count_from.new.self c.count_from.ensures.slot c.count_from.ensures.ballot
    (λ candidate promises counts. c.count_from.ensures.counts candidate promises (said_of holds.begun.slot promise) refl (ap (λ (s : ℕ). report_of s c.args.reports.items) (sym holds.slot_is) ∙ ap (report_of c.args.attempt.now.slot) (sym c.new.ensures)) counts)
    (ranged_ahead c.args.members calls promise c.args.attempt.now holds rises taken c.count_from.new.self c.count_from.ensures.counted
    (c.count_from.ensures.ahead (has_room c.args.members calls promise c.args.attempt.now holds rises taken c.count-most.ensures.within.within) ∙ ap (λ (l : List (ℕ × Acceptance)). option_map (with_reports (from_slot (suc c.args.attempt.now.slot) l)) c.args.attempt.now.ahead) c.new.ensures))
