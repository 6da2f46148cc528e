use Rattle.std.proofs.Common.{ℕ, ◌++◌, ◌∷◌, [], refl, sym, ap, subst, ◌∙◌}
use Rattle.proposer.specs.Call.{PromiseFrom, PromisesFrom}
use Rattle.proposer.specs.Attempting.{AnswersFrom}
use Rattle.proposer.specs.State.{ProposerState, HoldsOpen, attempt_of, StateAfter}
use Rattle.proposer.proofs.Standing.{stands_after}
use Rattle.proposer.proofs.Attempts.{attempts_are_one, state_is_open}
use Rattle.proposer.proofs.Staying.{attempt_goes_on}
use Rattle.proposer.proofs.proposer.Proposer.on_promise_from.Goals as goal

pub invariant_of-self : goal.invariant_of-self
invariant_of-self c =
    let start = c.self.invariant.start in
    let calls = c.self.invariant.calls in
    let old : ProposerState = record { me = c.self.inside.me; members = c.self.inside.members; highest_round = c.self.inside.highest_round; attempt = c.self.inside.attempt } in
    let promise : PromiseFrom = record { sender = c.args.sender; slot = c.args.slot; ballot = c.args.ballot; reports = c.args.reports.items } in
    let was : StateAfter start calls old = c.self.invariant.after in
    record {
      start = start;
      calls = calls ++ PromisesFrom promise ∷ [];
      after = stands_after start calls (PromisesFrom promise) old c.count_from_in.new.held refl was
          (subst (λ (m : ℕ). HoldsOpen m (calls ++ PromisesFrom promise ∷ []) c.count_from_in.new.held) was.members
          (c.count_from_in.ensures.stands calls (subst (λ (m : ℕ). HoldsOpen m calls c.self.inside.attempt) (sym was.members) was.attempt)));
    }

pub returns-clause-answers : goal.returns-clause-answers
returns-clause-answers c = λ start calls stands.
    let old : ProposerState = record { me = c.self.inside.me; members = c.self.inside.members; highest_round = c.self.inside.highest_round; attempt = c.self.inside.attempt } in
    let promise : PromiseFrom = record { sender = c.args.sender; slot = c.args.slot; ballot = c.args.ballot; reports = c.args.reports.items } in
    let was : StateAfter start calls old = subst (StateAfter start calls) (sym c.self.view_is) stands in
    subst (λ (m : ℕ). AnswersFrom m calls promise c.count_from_in.result) was.members
    (c.count_from_in.ensures.answers calls (subst (λ (m : ℕ). HoldsOpen m calls c.self.inside.attempt) (sym was.members) was.attempt))

pub returns-clause-stands : goal.returns-clause-stands
returns-clause-stands c = λ start calls stands.
    let old : ProposerState = record { me = c.self.inside.me; members = c.self.inside.members; highest_round = c.self.inside.highest_round; attempt = c.self.inside.attempt } in
    let promise : PromiseFrom = record { sender = c.args.sender; slot = c.args.slot; ballot = c.args.ballot; reports = c.args.reports.items } in
    let was : StateAfter start calls old = subst (StateAfter start calls) (sym c.self.view_is) stands in
    stands_after start calls (PromisesFrom promise) old c.count_from_in.new.held refl was
    (subst (λ (m : ℕ). HoldsOpen m (calls ++ PromisesFrom promise ∷ []) c.count_from_in.new.held) was.members
    (c.count_from_in.ensures.stands calls (subst (λ (m : ℕ). HoldsOpen m calls c.self.inside.attempt) (sym was.members) was.attempt)))

pub returns-clause-attempt : goal.returns-clause-attempt
returns-clause-attempt c =
    let start = c.self.invariant.start in
    let calls = c.self.invariant.calls in
    let old : ProposerState = record { me = c.self.inside.me; members = c.self.inside.members; highest_round = c.self.inside.highest_round; attempt = c.self.inside.attempt } in
    let new : ProposerState = record { me = c.self.inside.me; members = c.self.inside.members; highest_round = c.self.inside.highest_round; attempt = c.count_from_in.new.held } in
    let promise : PromiseFrom = record { sender = c.args.sender; slot = c.args.slot; ballot = c.args.ballot; reports = c.args.reports.items } in
    let was : StateAfter start calls old = c.self.invariant.after in
    let now : StateAfter start (calls ++ PromisesFrom promise ∷ []) new =
    stands_after start calls (PromisesFrom promise) old c.count_from_in.new.held refl was
    (subst (λ (m : ℕ). HoldsOpen m (calls ++ PromisesFrom promise ∷ []) c.count_from_in.new.held) was.members
    (c.count_from_in.ensures.stands calls (subst (λ (m : ℕ). HoldsOpen m calls c.self.inside.attempt) (sym was.members) was.attempt))) in
    attempts_are_one (calls ++ PromisesFrom promise ∷ []) (attempt_of new) (attempt_of old) (state_is_open start (calls ++ PromisesFrom promise ∷ []) new now)
    (attempt_goes_on calls (PromisesFrom promise) (attempt_of old) refl (λ begun. refl) (state_is_open start calls old was))
    ∙ ap attempt_of c.self.view_is
