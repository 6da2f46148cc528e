-- Which attempt is open, and at which ballot, told for the laws.
use Rattle.std.proofs.Common.{◌≡◌, ℕ, suc, max, ◌<◌, ◌≤◌, true, false, List, [], ◌∷◌, ◌++◌, Option, Some, None, refl, sym, ap, ◌∙◌, arith}
use Rattle.std.specs.Option.{option_map}
use Rattle.ballots.specs.Ballot.{Ballot}
use Rattle.ballots.specs.declared.value.Value.{Value}
use Rattle.proposer.specs.declared.attempt.Attempt.{Attempt}
use Rattle.proposer.specs.Call.{Start, Begun, Promise, PromiseFrom, ProposerCall, Begins, Promises, PromisesFrom, GoesOn, Nacks}
use Rattle.proposer.specs.Choosing.{reports_of, Chooses}
use Rattle.proposer.specs.Attempting.{highest_begun, next_ballot, BallotsIncrease, ends, IsOpen, IsAttempt, counted, LeadsToAcceptBy}
use Rattle.proposer.specs.Promised.{Reaches, MajorityPromised}
use Rattle.proposer.specs.State.{ProposerState, HoldsOpen, attempt_of, StateAfter}
use Rattle.proposer.proofs.Opening.{one_open, still_open, was_open, WasOpen}
use Rattle.proposer.proofs.Answering.{ended_by, not_ended_by}
use Rattle.proposer.proofs.Once.{first_within}
use Rattle.proposer.proofs.Members.{majority_is_promised}

-- ---- what opens and ends it

pub goes_on : (calls since : List ProposerCall) (begun : Begun) (promise : Promise) → IsOpen calls begun since → IsOpen (calls ++ Promises promise ∷ []) begun (since ++ Promises promise ∷ [])
goes_on calls since begun promise is_open = still_open calls begun since (Promises promise) refl is_open

pub goes_on_from : (calls since : List ProposerCall) (begun : Begun) (promise : PromiseFrom) → IsOpen calls begun since → IsOpen (calls ++ PromisesFrom promise ∷ []) begun (since ++ PromisesFrom promise ∷ [])
goes_on_from calls since begun promise is_open = still_open calls begun since (PromisesFrom promise) refl is_open

pub goes_further_on : (calls since : List ProposerCall) (begun : Begun) (candidate : Value) → IsOpen calls begun since → IsOpen (calls ++ GoesOn candidate ∷ []) begun (since ++ GoesOn candidate ∷ [])
goes_further_on calls since begun candidate is_open = still_open calls begun since (GoesOn candidate) refl is_open

pub stays_open : (calls since : List ProposerCall) (begun : Begun) (slot : ℕ) (ballot : Ballot) → (Reaches begun.reach begun.slot slot × (ballot ≡ begun.ballot) → ⊥)
    → IsOpen calls begun since → IsOpen (calls ++ Nacks slot ballot ∷ []) begun (since ++ Nacks slot ballot ∷ [])
stays_open calls since begun slot ballot differs is_open =
    still_open calls begun since (Nacks slot ballot)
    (not_ended_by (ends begun (Nacks slot ballot)) begun slot ballot refl (λ both. differs (both.0, sym both.1))) is_open

pub own_nack_ends : (calls since : List ProposerCall) (begun : Begun) (slot : ℕ) → Reaches begun.reach begun.slot slot → IsOpen (calls ++ Nacks slot begun.ballot ∷ []) begun since → ⊥
own_nack_ends calls since begun slot reached is_open =
    let was : WasOpen calls (Nacks slot begun.ballot) begun since = was_open calls (Nacks slot begun.ballot) begun since refl is_open in
    let ended : ends begun (Nacks slot begun.ballot) ≡ true = ended_by begun slot begun.ballot reached refl in
    let differ : true ≡ false = sym ended ∙ was.not_ended in
    absurd (cc)

-- ---- one attempt

abbrev place_of : Begun → ℕ × Ballot
place_of begun = (begun.slot, begun.ballot)

pub attempts_are_one : (calls : List ProposerCall) (a b : Option (ℕ × Ballot)) → IsAttempt calls a → IsAttempt calls b → a ≡ b
attempts_are_one calls None None one other = refl
attempts_are_one calls None (Some b) one other = absurd (one other.0 other.1 other.2)
attempts_are_one calls (Some a) None one other = absurd (other one.0 one.1 one.2)
attempts_are_one calls (Some a) (Some b) one other =
    let same : one.0 ≡ other.0 = (one_open calls one.0 other.0 one.1 other.1 one.2 other.2).0 in
    ap Some (one.3 ∙ ap place_of same ∙ sym other.3)

abbrev held_at : Attempt → ℕ × Ballot
held_at attempt = (attempt.slot, attempt.ballot)

held_is_open : (members : ℕ) (calls : List ProposerCall) (held : Option Attempt) → HoldsOpen members calls held → IsAttempt calls (option_map held_at held)
held_is_open members calls None closed = closed
held_is_open members calls (Some attempt) holds =
    (holds.begun, holds.since, holds.open_is, ap (λ (s : ℕ). (s, attempt.ballot)) holds.slot_is ∙ ap (λ (b : Ballot). (holds.begun.slot, b)) holds.ballot_is)

pub state_is_open : (start : Start) (calls : List ProposerCall) (state : ProposerState) → StateAfter start calls state → IsAttempt calls (attempt_of state)
state_is_open start calls state after = held_is_open start.members calls state.attempt after.attempt

pub attempts_alike : (start : Start) (calls : List ProposerCall) (a b : ProposerState) → StateAfter start calls a → StateAfter start calls b → attempt_of a ≡ attempt_of b
attempts_alike start calls a b after other =
    attempts_are_one calls (attempt_of a) (attempt_of b) (state_is_open start calls a after) (state_is_open start calls b other)

pub rounds_alike : (start : Start) (calls : List ProposerCall) (a b : ProposerState) → StateAfter start calls a → StateAfter start calls b → (a.me ≡ b.me) × (a.highest_round ≡ b.highest_round)
rounds_alike start calls a b after other = (after.me ∙ sym other.me, after.highest_round ∙ sym other.highest_round)

-- ---- its ballot and its majority

above_both : (highest seen low round : ℕ) → low ≤ highest → round ≡ suc (max seen highest) → (low < round) × (seen < round)
above_both highest seen low round le is = (omega (arith, le, is), omega (arith, is))

pub ballot_is_its_own : (me highest : ℕ) (before after : List ProposerCall) (begun : Begun) → BallotsIncrease me highest (before ++ Begins begun ∷ after)
    → (begun.ballot.node ≡ me) × (highest < begun.ballot.round) × (begun.seen_round < begun.ballot.round)
ballot_is_its_own me highest before after begun rises =
    let next : begun.ballot ≡ next_ballot me (highest_begun highest before) begun.seen_round = rises.each before after begun refl in
    let above : (highest < begun.ballot.round) × (begun.seen_round < begun.ballot.round) =
    above_both (highest_begun highest before) begun.seen_round highest begun.ballot.round (first_within highest before) (ap (λ (b : Ballot). b.round) next) in
    (ap (λ (b : Ballot). b.node) next, above.0, above.1)

pub accept_has_majority : (members : ℕ) (calls : List ProposerCall) (call : ProposerCall) (accept : ℕ × Ballot × Value) → LeadsToAcceptBy members calls call accept
    → (begun : Begun) × (since : List ProposerCall) × IsOpen calls begun since × (accept.0 ≡ begun.slot) × (accept.1 ≡ begun.ballot) × MajorityPromised members begun (since ++ call ∷ [])
    × Chooses begun.candidate (reports_of (counted members begun (since ++ call ∷ []))) accept.2
accept_has_majority members calls call accept accepts = (
  accepts.begun,
  accepts.since,
  accepts.open_is,
  accepts.slot_is,
  accepts.ballot_is,
  (majority_is_promised members accepts.begun (accepts.since ++ call ∷ [])).0 accepts.completes.now,
  accepts.value_is,
)
