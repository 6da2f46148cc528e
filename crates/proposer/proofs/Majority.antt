-- Whether the attempt that is held has its majority.
use Rattle.std.proofs.Common.{◌≡◌, ℕ, ◌*◌, List, [], ◌∷◌, ◌++◌, ◌↔◌, false, Option, Some, None, inl, inr, refl, subst, arith}
use Rattle.std.proofs.lemmas.Bool.{cases_lt}
use Rattle.ballots.specs.Ballot.{Ballot}
use Rattle.ballots.specs.Majority.{tally}
use Rattle.ballots.specs.declared.value.Value.{Value}
use Rattle.proposer.specs.declared.attempt.Attempt.{Attempt}
use Rattle.proposer.specs.declared.choice.Choice.{Choice}
use Rattle.proposer.specs.Call.{Reach, OneSlot, AllFrom, Begun, ProposerCall, Begins, Promises, PromisesFrom, GoesOn, Nacks}
use Rattle.proposer.specs.Choosing.{is_sender, HasMajority}
use Rattle.proposer.specs.Reporting.{promise_in}
use Rattle.proposer.specs.Attempting.{ends, answering, CompletesBy, LeadsToAcceptBy, AnswersCall, HasItsMajority}
use Rattle.proposer.specs.Counting.{ChoiceAfter}
use Rattle.proposer.specs.State.{Holds, HoldsOpen}
use Rattle.proposer.proofs.Opening.{one_open, still_open, was_open, WasOpen, is_begin}
use Rattle.proposer.proofs.Answering.{answering-none, nack_tells_none, going_tells_none}

module _ (members : ℕ) (calls : List ProposerCall) (attempt : Attempt) (holds : Holds members calls attempt) where
  pub held_majority : attempt.choice ≡ None → HasMajority members (answering members holds.begun holds.since)
  held_majority gone = subst (ChoiceAfter members holds.begun.candidate (answering members holds.begun holds.since)) gone holds.counts.choice

  pub majority_where_gone : attempt.choice ≡ None → HasItsMajority members calls
  majority_where_gone gone = (holds.begun, holds.since, holds.open_is, held_majority gone)

  pub none_where_kept : (choice : Choice) → attempt.choice ≡ Some choice → HasItsMajority members calls → ⊥
  none_where_kept choice kept majority =
      let one : (majority.0 ≡ holds.begun) × (majority.1 ≡ holds.since) = one_open calls majority.0 holds.begun majority.1 holds.since majority.2 holds.open_is in
      let here : HasMajority members (answering members holds.begun holds.since) =
      subst (λ (b : Begun). HasMajority members (answering members b holds.since)) one.0 (subst (λ (s : List ProposerCall). HasMajority members (answering members majority.0 s)) one.1 majority.3) in
      (subst (ChoiceAfter members holds.begun.candidate (answering members holds.begun holds.since)) kept holds.counts.choice).0 here

-- where nothing is open, nothing has it
pub none_where_closed : (members : ℕ) (calls : List ProposerCall) → HoldsOpen members calls None → HasItsMajority members calls → ⊥
none_where_closed members calls closed majority = closed majority.0 majority.1 majority.2

pub gone_where_majority : (members : ℕ) (calls : List ProposerCall) (attempt : Attempt) → Holds members calls attempt → HasItsMajority members calls → attempt.choice ≡ None
gone_where_majority members calls attempt holds majority = by attempt.choice refl
  where
    by : (choice : Option Choice) → attempt.choice ≡ choice → attempt.choice ≡ None
    by None gone = gone
    by (Some choice) kept = absurd (none_where_kept members calls attempt holds choice kept majority)

-- ---- it comes with the Accept

-- what completes an attempt is a promise, so it does not end it
not_completed : (members : ℕ) (begun : Begun) (since : List ProposerCall) (call : ProposerCall) → promise_in begun.reach begun.slot call ≡ None → CompletesBy members begun since call → ⊥
not_completed members begun since call none completes =
    completes.before (rw (answering-none members begun begun.slot since call none) at completes.now)

begin_tells_none : (reach : Reach) (slot : ℕ) (begun : Begun) → promise_in reach slot (Begins begun) ≡ None
begin_tells_none OneSlot slot begun = refl
begin_tells_none AllFrom slot begun = refl

pub completed_stays : (members : ℕ) (begun : Begun) (since : List ProposerCall) (call : ProposerCall) → CompletesBy members begun since call → ends begun call ≡ false
completed_stays members begun since (Begins another) completes = absurd (not_completed members begun since (Begins another) (begin_tells_none begun.reach begun.slot another) completes)
completed_stays members begun since (Promises promise) completes = refl
completed_stays members begun since (PromisesFrom promise) completes = refl
completed_stays members begun since (GoesOn candidate) completes = refl
completed_stays members begun since (Nacks slot ballot) completes = absurd (not_completed members begun since (Nacks slot ballot) (nack_tells_none begun.reach begun.slot slot ballot) completes)

pub majority_now : (members : ℕ) (calls : List ProposerCall) (call : ProposerCall) (accept : ℕ × Ballot × Value) → LeadsToAcceptBy members calls call accept → HasItsMajority members (calls ++ call ∷ [])
majority_now members calls call accept accepts = (
  accepts.begun,
  accepts.since ++ call ∷ [],
  still_open calls accepts.begun accepts.since call (completed_stays members accepts.begun accepts.since call accepts.completes) accepts.open_is,
  accepts.completes.now,
)

pub none_before : (members : ℕ) (calls : List ProposerCall) (call : ProposerCall) (accept : ℕ × Ballot × Value) → LeadsToAcceptBy members calls call accept → HasItsMajority members calls → ⊥
none_before members calls call accept accepts majority =
    let one : (majority.0 ≡ accepts.begun) × (majority.1 ≡ accepts.since) = one_open calls majority.0 accepts.begun majority.1 accepts.since majority.2 accepts.open_is in
    accepts.completes.before
    (subst (λ (b : Begun). HasMajority members (answering members b accepts.since)) one.0 (subst (λ (s : List ProposerCall). HasMajority members (answering members majority.0 s)) one.1 majority.3))

pub none_without : (members : ℕ) (calls : List ProposerCall) (call : ProposerCall) → is_begin call ≡ false → AnswersCall members calls call None → HasItsMajority members (calls ++ call ∷ []) → HasItsMajority members calls
none_without members calls call begins_none none majority =
    let was : WasOpen calls call majority.0 majority.1 = was_open calls call majority.0 majority.1 begins_none majority.2 in
    elim (cases_lt members (2 * tally members (is_sender (answering members majority.0 was.rest)))) as (λ _. HasItsMajority members calls) [
      | inl before ↦ (majority.0, was.rest, was.open_is, before)
      | inr not ↦ absurd (none majority.0 was.rest was.open_is (record {
        before = λ m. absurd (omega (arith, m, not));
        now = subst (λ (s : List ProposerCall). HasMajority members (answering members majority.0 s)) was.since_is majority.3;
      }))
    ]

-- one that goes on changes nothing of it
pub majority_further : (members : ℕ) (calls : List ProposerCall) (candidate : Value) → (HasItsMajority members (calls ++ GoesOn candidate ∷ []) ↔ HasItsMajority members calls)
majority_further members calls candidate = (
  none_without members calls (GoesOn candidate) refl (λ begun since is_open completes. not_completed members begun since (GoesOn candidate) (going_tells_none begun.reach begun.slot candidate) completes),
  λ majority. (
    majority.0,
    majority.1 ++ GoesOn candidate ∷ [],
    still_open calls majority.0 majority.1 (GoesOn candidate) refl majority.2,
    rw (answering-none members majority.0 majority.0.slot majority.1 (GoesOn candidate) (going_tells_none majority.0.reach majority.0.slot candidate)) majority.3,
  ),
)
