-- What a promise and a Nack do to the attempt that is held.
use Rattle.std.proofs.Common.{◌≡◌, ℕ, ◌<◌, ◌==◌, ◌&&◌, nat_lt, Bool, true, false, List, [], ◌∷◌, ◌++◌, filter, filter_map, append-nil, Option, Some, None, refl, sym, ap, subst, ◌∙◌, arith, eq-eqb, lt-ltb}
use Rattle.std.specs.List.{cons_option}
use Rattle.std.proofs.lemmas.Bool.{eqb-true, leb-true, le-leb}
use Rattle.std.proofs.lemmas.Bool.Decides.{nat_tests}
use Rattle.std.proofs.lemmas.List.Elements.{filter-append, filter_map-append}
use Rattle.ballots.specs.Ballot.{Ballot, is_same_ballot}
use Rattle.ballots.specs.Majority.{NodeSet, contains}
use Rattle.ballots.specs.declared.value.Value.{Value}
use Rattle.ballots.proofs.CallerLemmas.{same_ballot_is}
use Rattle.proposer.specs.declared.attempt.Attempt.{Attempt}
use Rattle.proposer.specs.Call.{Reach, OneSlot, AllFrom, Begun, Promise, PromiseFrom, ProposerCall, Promises, PromisesFrom, GoesOn, Nacks}
use Rattle.proposer.specs.Choosing.{is_sender, HasMajority}
use Rattle.proposer.specs.Reporting.{rises_from, said_of, promise_in}
use Rattle.proposer.specs.Attempting.{reaches, ends, answering_at, answering, is_for, CompletesBy, AnswersCall}
use Rattle.proposer.specs.GoingOn.{goes_further}
use Rattle.proposer.specs.Promised.{Reaches}
use Rattle.proposer.specs.Kept.{AheadState}
use Rattle.proposer.specs.Counting.{Counts, AnswersAtMajority, WouldCount, IsAt, reach_by, HoldsAhead}
use Rattle.proposer.specs.State.{Holds, HoldsOpen}
use Rattle.proposer.proofs.Counting.{counts_again, majority_again}
use Rattle.proposer.proofs.Opening.{still_open, one_open, was_open, WasOpen, both_true, is_begin}
use Rattle.proposer.proofs.Going.{Idle, elsewhere, twice, senders_alike, ahead_idle}

-- ---- the promises that answer

answering-push : (members : ℕ) (begun : Begun) (slot : ℕ) (since : List ProposerCall) (call : ProposerCall) → answering_at members begun slot (since ++ call ∷ []) ≡ answering_at members begun slot since ++ filter (is_for members begun) (cons_option (promise_in begun.reach slot call) [])
answering-push members begun slot since call =
    rw (filter_map-append (promise_in begun.reach slot) since (call ∷ []))
    (filter-append (is_for members begun) (filter_map (promise_in begun.reach slot) since) (cons_option (promise_in begun.reach slot call) []))

pub answering-one : (members : ℕ) (begun : Begun) (slot : ℕ) (since : List ProposerCall) (call : ProposerCall) (promise : Promise) → promise_in begun.reach slot call ≡ Some promise → is_for members begun promise ≡ true → answering_at members begun slot (since ++ call ∷ []) ≡ answering_at members begun slot since ++ promise ∷ []
answering-one members begun slot since call promise told is = rw (answering-push members begun slot since call, told, is) refl

answering-other : (members : ℕ) (begun : Begun) (slot : ℕ) (since : List ProposerCall) (call : ProposerCall) (promise : Promise) → promise_in begun.reach slot call ≡ Some promise → is_for members begun promise ≡ false → answering_at members begun slot (since ++ call ∷ []) ≡ answering_at members begun slot since
answering-other members begun slot since call promise told is = rw (answering-push members begun slot since call, told, is) (append-nil _)

pub answering-none : (members : ℕ) (begun : Begun) (slot : ℕ) (since : List ProposerCall) (call : ProposerCall) → promise_in begun.reach slot call ≡ None → answering_at members begun slot (since ++ call ∷ []) ≡ answering_at members begun slot since
answering-none members begun slot since call told = rw (answering-push members begun slot since call, told) (append-nil _)

-- what a call tells an attempt, by its reach
module _ (reach : Reach) (slot : ℕ) where
  pub plain_tells : (promise : Promise) → reach ≡ OneSlot → promise_in reach slot (Promises promise) ≡ Some promise
  plain_tells promise is = ap (λ (r : Reach). promise_in r slot (Promises promise)) is

  pub plain_tells_none : (promise : Promise) → reach ≡ AllFrom → promise_in reach slot (Promises promise) ≡ None
  plain_tells_none promise is = ap (λ (r : Reach). promise_in r slot (Promises promise)) is

  pub ranged_tells : (promise : PromiseFrom) → reach ≡ AllFrom → rises_from promise.slot promise.reports ≡ true → promise_in reach slot (PromisesFrom promise) ≡ Some (said_of slot promise)
  ranged_tells promise is rises = ap (λ (r : Reach). promise_in r slot (PromisesFrom promise)) is ∙ rw rises refl

  pub falling_tells_none : (promise : PromiseFrom) → reach ≡ AllFrom → rises_from promise.slot promise.reports ≡ false → promise_in reach slot (PromisesFrom promise) ≡ None
  falling_tells_none promise is falls = ap (λ (r : Reach). promise_in r slot (PromisesFrom promise)) is ∙ rw falls refl

  pub ranged_tells_none : (promise : PromiseFrom) → reach ≡ OneSlot → promise_in reach slot (PromisesFrom promise) ≡ None
  ranged_tells_none promise is = ap (λ (r : Reach). promise_in r slot (PromisesFrom promise)) is

pub nack_tells_none : (reach : Reach) (at slot : ℕ) (ballot : Ballot) → promise_in reach at (Nacks slot ballot) ≡ None
nack_tells_none OneSlot at slot ballot = refl
nack_tells_none AllFrom at slot ballot = refl

pub going_tells_none : (reach : Reach) (at : ℕ) (candidate : Value) → promise_in reach at (GoesOn candidate) ≡ None
going_tells_none OneSlot at candidate = refl
going_tells_none AllFrom at candidate = refl

-- it answers exactly where it is by a member, at the attempt's slot and ballot
pub is_for_parts : (members : ℕ) (begun : Begun) (promise : Promise) → is_for members begun promise ≡ true → (promise.sender < members) × (promise.slot ≡ begun.slot) × (promise.ballot ≡ begun.ballot)
is_for_parts members begun promise is =
    let outer : (nat_lt promise.sender members ≡ true) × ((promise.slot == begun.slot && is_same_ballot promise.ballot begun.ballot) ≡ true) = both_true _ _ is in
    let inner : ((promise.slot == begun.slot) ≡ true) × (is_same_ballot promise.ballot begun.ballot ≡ true) = both_true _ _ outer.1 in
    (grind (arith, nat_tests, outer.0), grind (arith, nat_tests, inner.0), (same_ballot_is promise.ballot begun.ballot).0 inner.1)

pub is_for_these : (members : ℕ) (begun : Begun) (promise : Promise) → promise.sender < members → promise.slot ≡ begun.slot → promise.ballot ≡ begun.ballot → is_for members begun promise ≡ true
is_for_these members begun promise lt slot_is ballot_is =
    rw (lt-ltb promise.sender members lt, eq-eqb promise.slot begun.slot slot_is, (same_ballot_is promise.ballot begun.ballot).1 ballot_is) refl

-- the attempt that is held reaches as far as the one that began
reach_held : (members : ℕ) (begun : Begun) (since : List ProposerCall) (counted : NodeSet) (ahead : Option AheadState) → HoldsAhead members begun since counted ahead → begun.reach ≡ reach_by ahead
reach_held members begun since counted None is = is
reach_held members begun since counted (Some ahead) is = is.0

pub reach_is : (members : ℕ) (calls : List ProposerCall) (attempt : Attempt) (holds : Holds members calls attempt) → holds.begun.reach ≡ reach_by attempt.ahead
reach_is members calls attempt holds = reach_held members holds.begun holds.since attempt.counted attempt.ahead holds.ahead

-- ---- a call of which nothing is counted

module _ (members : ℕ) (calls : List ProposerCall) (call : ProposerCall) (attempt : Attempt) (holds : Holds members calls attempt) where
  abbrev pub Idles : Type 0
  Idles = Idle members holds.begun holds.since call

  -- it promises nothing to the attempt
  pub idle_by_none : ((slot : ℕ) → promise_in holds.begun.reach slot call ≡ None) → Idles
  idle_by_none none = elsewhere (λ slot. answering-none members holds.begun slot holds.since call (none slot))

  -- it promises something to another attempt, or its sender is counted
  module _ (promise : ℕ → Promise) (sender : ℕ) (told : (slot : ℕ) → promise_in holds.begun.reach slot call ≡ Some (promise slot))
      (alike : (slot : ℕ) → is_for members holds.begun (promise slot) ≡ is_for members holds.begun (promise holds.begun.slot)) (from : (slot : ℕ) → (promise slot).sender ≡ sender)
      (not_taken : is_for members holds.begun (promise holds.begun.slot) ≡ true → contains attempt.counted sender ≡ false → ⊥) where
    sent_at : is_for members holds.begun (promise holds.begun.slot) ≡ true → contains attempt.counted sender ≡ true → (slot : ℕ) → is_sender (answering_at members holds.begun slot holds.since) (promise slot).sender ≡ true
    sent_at is counted slot =
        let lt : sender < members = subst (λ (s : ℕ). s < members) (from holds.begun.slot) (is_for_parts members holds.begun (promise holds.begun.slot) is).0 in
        ap (is_sender (answering_at members holds.begun slot holds.since)) (from slot)
        ∙ senders_alike members holds.begun slot holds.begun.slot holds.since sender
        ∙ sym (holds.counts.senders sender lt) ∙ counted

    idle_by_sender : (is_counted : Bool) → contains attempt.counted sender ≡ is_counted → is_for members holds.begun (promise holds.begun.slot) ≡ true → Idles
    idle_by_sender true counted is =
        twice promise (λ slot. answering-one members holds.begun slot holds.since call (promise slot) (told slot) (alike slot ∙ is)) (sent_at is counted)
    idle_by_sender false counted is = absurd (not_taken is counted)

    idle_by_answer : (answers : Bool) → is_for members holds.begun (promise holds.begun.slot) ≡ answers → Idles
    idle_by_answer true is = idle_by_sender (contains attempt.counted sender) refl is
    idle_by_answer false is = elsewhere (λ slot. answering-other members holds.begun slot holds.since call (promise slot) (told slot) (alike slot ∙ is))

    pub idle_by_promise : Idles
    idle_by_promise = idle_by_answer (is_for members holds.begun (promise holds.begun.slot)) refl

  counts_idle : Idles → Counts members holds.begun.candidate (answering members holds.begun (holds.since ++ call ∷ [])) attempt
  counts_idle (elsewhere e) = rw (e holds.begun.slot) holds.counts
  counts_idle (twice promise e sent) =
      rw (e holds.begun.slot) (counts_again members holds.begun.candidate (answering members holds.begun holds.since) (promise holds.begun.slot) (sent holds.begun.slot) attempt holds.counts)

  pub holds_idle : Idles → ends holds.begun call ≡ false → goes_further call ≡ false → Holds members (calls ++ call ∷ []) attempt
  holds_idle idle not_ended not_further = record {
    begun = holds.begun;
    since = holds.since ++ call ∷ [];
    open_is = still_open calls holds.begun holds.since call not_ended holds.open_is;
    slot_is = holds.slot_is;
    ballot_is = holds.ballot_is;
    counts = counts_idle idle;
    ahead = ahead_idle members holds.begun holds.since call attempt.counted attempt.ahead idle not_further holds.ahead;
  }

  majority_idle : Idles → HasMajority members (answering members holds.begun (holds.since ++ call ∷ [])) → HasMajority members (answering members holds.begun holds.since)
  majority_idle (elsewhere e) majority = rw (e holds.begun.slot) at majority
  majority_idle (twice promise e sent) majority =
      majority_again members holds.begun.candidate (answering members holds.begun holds.since) (promise holds.begun.slot) (sent holds.begun.slot) (rw (e holds.begun.slot) at majority)

  completes_here : (begun : Begun) (since : List ProposerCall) (is_open : (begun ≡ holds.begun) × (since ≡ holds.since)) → CompletesBy members begun since call → CompletesBy members holds.begun holds.since call
  completes_here begun since one completes =
      subst (λ (b : Begun). CompletesBy members b holds.since call) one.0 (subst (λ (s : List ProposerCall). CompletesBy members begun s call) one.1 completes)

  pub answers_idle : Idles → AnswersCall members calls call None
  answers_idle idle begun since is_open completes =
      let here : CompletesBy members holds.begun holds.since call = completes_here begun since (one_open calls begun holds.begun since holds.since is_open holds.open_is) completes in
      here.before (majority_idle idle here.now)

  -- ---- a call of which a promise is counted

  module _ (promise : Promise) (told : promise_in holds.begun.reach holds.begun.slot call ≡ Some promise) (is : is_for members holds.begun promise ≡ true) where
    is_pushed : answering members holds.begun (holds.since ++ call ∷ []) ≡ answering members holds.begun holds.since ++ promise ∷ []
    is_pushed = answering-one members holds.begun holds.begun.slot holds.since call promise told is

    pub holds_taken : ends holds.begun call ≡ false → (new : Attempt) → new.slot ≡ attempt.slot → new.ballot ≡ attempt.ballot
        → ((candidate : Value) (promises : List Promise) → Counts members candidate promises attempt → Counts members candidate (promises ++ promise ∷ []) new)
        → HoldsAhead members holds.begun (holds.since ++ call ∷ []) new.counted new.ahead
        → Holds members (calls ++ call ∷ []) new
    holds_taken not_ended new slot_is ballot_is counts ahead = record {
      begun = holds.begun;
      since = holds.since ++ call ∷ [];
      open_is = still_open calls holds.begun holds.since call not_ended holds.open_is;
      slot_is = slot_is ∙ holds.slot_is;
      ballot_is = ballot_is ∙ holds.ballot_is;
      counts = rw is_pushed (counts holds.begun.candidate (answering members holds.begun holds.since) holds.counts);
      ahead = ahead;
    }

    pub answers_value : (slot : ℕ) (ballot : Ballot) (value : Value) → attempt.slot ≡ slot → attempt.ballot ≡ ballot
        → ((candidate : Value) (promises : List Promise) → Counts members candidate promises attempt → AnswersAtMajority members candidate promises promise (Some value))
        → AnswersCall members calls call (Some (slot, ballot, value))
    answers_value slot ballot value slot_is ballot_is gives =
        let given : AnswersAtMajority members holds.begun.candidate (answering members holds.begun holds.since) promise (Some value) = gives holds.begun.candidate (answering members holds.begun holds.since) holds.counts in
        record {
          begun = holds.begun;
          since = holds.since;
          open_is = holds.open_is;
          completes = record { before = given.0; now = rw is_pushed given.1 };
          slot_is = sym slot_is ∙ holds.slot_is;
          ballot_is = sym ballot_is ∙ holds.ballot_is;
          value_is = rw is_pushed given.2;
        }

    pub answers_nothing : ((candidate : Value) (promises : List Promise) → Counts members candidate promises attempt → AnswersAtMajority members candidate promises promise None)
        → AnswersCall members calls call None
    answers_nothing gives begun since is_open completes =
        let here : CompletesBy members holds.begun holds.since call = completes_here begun since (one_open calls begun holds.begun since holds.since is_open holds.open_is) completes in
        gives holds.begun.candidate (answering members holds.begun holds.since) holds.counts here.before (rw is_pushed at here.now)

    -- where memory was refused, something would have been answered
    pub refused_value : ((candidate : Value) (promises : List Promise) → Counts members candidate promises attempt → AnswersAtMajority members candidate promises promise None → ⊥)
        → AnswersCall members calls call None → ⊥
    refused_value refused answers =
        refused holds.begun.candidate (answering members holds.begun holds.since) holds.counts
        (λ before now. answers holds.begun holds.since holds.open_is (record { before = before; now = rw is_pushed now }))

-- ---- a promise of one slot

module _ (members : ℕ) (calls : List ProposerCall) (promise : Promise) (attempt : Attempt) (holds : Holds members calls attempt) where
  module _ (not_taken : WouldCount OneSlot members promise.sender promise.slot promise.ballot attempt → ⊥) where
    plain_by_reach : (reach : Reach) → holds.begun.reach ≡ reach → Idle members holds.begun holds.since (Promises promise)
    plain_by_reach AllFrom is = idle_by_none members calls (Promises promise) attempt holds (λ slot. plain_tells_none holds.begun.reach slot promise is)
    plain_by_reach OneSlot is =
        idle_by_promise members calls (Promises promise) attempt holds (λ slot. promise) promise.sender (λ slot. plain_tells holds.begun.reach slot promise is) (λ slot. refl) (λ slot. refl)
        (λ answers counted.
        let parts : (promise.sender < members) × (promise.slot ≡ holds.begun.slot) × (promise.ballot ≡ holds.begun.ballot) = is_for_parts members holds.begun promise answers in
        not_taken (record {
          reach_is = sym (reach_is members calls attempt holds) ∙ is;
          slot_is = holds.slot_is ∙ sym parts.1;
          ballot_is = holds.ballot_is ∙ sym parts.2;
          is_new = record { member = parts.0; not_counted = counted };
        }))

    pub plain_idle : Idle members holds.begun holds.since (Promises promise)
    plain_idle = plain_by_reach holds.begun.reach refl

  module _ (taken : WouldCount OneSlot members promise.sender promise.slot promise.ballot attempt) where
    pub plain_told : promise_in holds.begun.reach holds.begun.slot (Promises promise) ≡ Some promise
    plain_told = plain_tells holds.begun.reach holds.begun.slot promise (reach_is members calls attempt holds ∙ taken.reach_is)

    pub plain_for : is_for members holds.begun promise ≡ true
    plain_for = is_for_these members holds.begun promise taken.is_new.member (sym taken.slot_is ∙ holds.slot_is) (sym taken.ballot_is ∙ holds.ballot_is)

    -- an attempt for one slot keeps nothing of those behind it
    no_ahead : (counted : NodeSet) (ahead : Option AheadState) → ahead ≡ attempt.ahead → HoldsAhead members holds.begun (holds.since ++ Promises promise ∷ []) counted ahead
    no_ahead counted None is = reach_is members calls attempt holds ∙ taken.reach_is
    no_ahead counted (Some ahead) is = absurd (let no : AllFrom ≡ OneSlot = ap reach_by is ∙ taken.reach_is in cc)

    pub plain_ahead : (new : Attempt) → new.ahead ≡ attempt.ahead → HoldsAhead members holds.begun (holds.since ++ Promises promise ∷ []) new.counted new.ahead
    plain_ahead new is = no_ahead new.counted new.ahead is

-- ---- a promise of all slots from one on

module _ (members : ℕ) (calls : List ProposerCall) (promise : PromiseFrom) (attempt : Attempt) (holds : Holds members calls attempt) where
  module _ (not_taken : rises_from promise.slot promise.reports ≡ true → WouldCount AllFrom members promise.sender promise.slot promise.ballot attempt → ⊥) where
    ranged_by_rise : holds.begun.reach ≡ AllFrom → (rises : Bool) → rises_from promise.slot promise.reports ≡ rises → Idle members holds.begun holds.since (PromisesFrom promise)
    ranged_by_rise is false falls = idle_by_none members calls (PromisesFrom promise) attempt holds (λ slot. falling_tells_none holds.begun.reach slot promise is falls)
    ranged_by_rise is true rises =
        idle_by_promise members calls (PromisesFrom promise) attempt holds (λ slot. said_of slot promise) promise.sender (λ slot. ranged_tells holds.begun.reach slot promise is rises) (λ slot. refl) (λ slot. refl)
        (λ answers counted.
        let parts : (promise.sender < members) × (promise.slot ≡ holds.begun.slot) × (promise.ballot ≡ holds.begun.ballot) = is_for_parts members holds.begun (said_of holds.begun.slot promise) answers in
        not_taken rises (record {
          reach_is = sym (reach_is members calls attempt holds) ∙ is;
          slot_is = holds.slot_is ∙ sym parts.1;
          ballot_is = holds.ballot_is ∙ sym parts.2;
          is_new = record { member = parts.0; not_counted = counted };
        }))

    ranged_by_reach : (reach : Reach) → holds.begun.reach ≡ reach → Idle members holds.begun holds.since (PromisesFrom promise)
    ranged_by_reach OneSlot is = idle_by_none members calls (PromisesFrom promise) attempt holds (λ slot. ranged_tells_none holds.begun.reach slot promise is)
    ranged_by_reach AllFrom is = ranged_by_rise is (rises_from promise.slot promise.reports) refl

    pub ranged_idle : Idle members holds.begun holds.since (PromisesFrom promise)
    ranged_idle = ranged_by_reach holds.begun.reach refl

  module _ (rises : rises_from promise.slot promise.reports ≡ true) (taken : WouldCount AllFrom members promise.sender promise.slot promise.ballot attempt) where
    pub ranged_told : (slot : ℕ) → promise_in holds.begun.reach slot (PromisesFrom promise) ≡ Some (said_of slot promise)
    ranged_told slot = ranged_tells holds.begun.reach slot promise (reach_is members calls attempt holds ∙ taken.reach_is) rises

    pub ranged_for : (slot : ℕ) → is_for members holds.begun (said_of slot promise) ≡ true
    ranged_for slot = is_for_these members holds.begun (said_of slot promise) taken.is_new.member (sym taken.slot_is ∙ holds.slot_is) (sym taken.ballot_is ∙ holds.ballot_is)

-- ---- where nothing is open

pub closed_on : (members : ℕ) (calls : List ProposerCall) (call : ProposerCall) → is_begin call ≡ false → HoldsOpen members calls None → HoldsOpen members (calls ++ call ∷ []) None
closed_on members calls call begins_none closed begun since is_open =
    let was : WasOpen calls call begun since = was_open calls call begun since begins_none is_open in
    closed begun was.rest was.open_is

pub closed_answers : (members : ℕ) (calls : List ProposerCall) (call : ProposerCall) → HoldsOpen members calls None → AnswersCall members calls call None
closed_answers members calls call closed begun since is_open completes = closed begun since is_open

-- ---- a Nack

reaches_then : (reach : Reach) (first slot : ℕ) → reaches reach first slot ≡ true → Reaches reach first slot
reaches_then OneSlot first slot is = eqb-true slot first is
reaches_then AllFrom first slot is = leb-true first slot is

reaches_by : (reach : Reach) (first slot : ℕ) → Reaches reach first slot → reaches reach first slot ≡ true
reaches_by OneSlot first slot is = eq-eqb slot first is
reaches_by AllFrom first slot is = le-leb first slot is

pub ended_by : (begun : Begun) (slot : ℕ) (ballot : Ballot) → Reaches begun.reach begun.slot slot → begun.ballot ≡ ballot → ends begun (Nacks slot ballot) ≡ true
ended_by begun slot ballot reached ballot_is = rw (reaches_by begun.reach begun.slot slot reached, (same_ballot_is ballot begun.ballot).1 (sym ballot_is)) refl

pub not_ended_by : (answer : Bool) (begun : Begun) (slot : ℕ) (ballot : Ballot) → ends begun (Nacks slot ballot) ≡ answer → (Reaches begun.reach begun.slot slot × (begun.ballot ≡ ballot) → ⊥) → ends begun (Nacks slot ballot) ≡ false
not_ended_by false begun slot ballot is not = is
not_ended_by true begun slot ballot is not =
    let both : (reaches begun.reach begun.slot slot ≡ true) × (is_same_ballot ballot begun.ballot ≡ true) = both_true _ _ is in
    absurd (not (reaches_then begun.reach begun.slot slot both.0, sym ((same_ballot_is ballot begun.ballot).0 both.1)))

module _ (members : ℕ) (calls : List ProposerCall) (attempt : Attempt) (slot : ℕ) (ballot : Ballot) (holds : Holds members calls attempt) where
  pub is_at_begun : IsAt (Some attempt) slot ballot → Reaches holds.begun.reach holds.begun.slot slot × (holds.begun.ballot ≡ ballot)
  is_at_begun at = (
    subst (λ (r : Reach). Reaches r holds.begun.slot slot) (sym (reach_is members calls attempt holds)) (subst (λ (s : ℕ). Reaches (reach_by attempt.ahead) s slot) holds.slot_is at.0),
    sym holds.ballot_is ∙ at.1,
  )

  pub begun_is_at : Reaches holds.begun.reach holds.begun.slot slot × (holds.begun.ballot ≡ ballot) → IsAt (Some attempt) slot ballot
  begun_is_at begun = (
    subst (λ (s : ℕ). Reaches (reach_by attempt.ahead) s slot) (sym holds.slot_is) (subst (λ (r : Reach). Reaches r holds.begun.slot slot) (reach_is members calls attempt holds) begun.0),
    holds.ballot_is ∙ begun.1,
  )

pub closed_by : (members : ℕ) (calls : List ProposerCall) (held : Option Attempt) (slot : ℕ) (ballot : Ballot) → IsAt held slot ballot → HoldsOpen members calls held → HoldsOpen members (calls ++ Nacks slot ballot ∷ []) None
closed_by members calls None slot ballot at holds = absurd at
closed_by members calls (Some attempt) slot ballot at holds = λ begun since is_open.
    let was : WasOpen calls (Nacks slot ballot) begun since = was_open calls (Nacks slot ballot) begun since refl is_open in
    let one : (begun ≡ holds.begun) × (was.rest ≡ holds.since) = one_open calls begun holds.begun was.rest holds.since was.open_is holds.open_is in
    let there : Reaches holds.begun.reach holds.begun.slot slot × (holds.begun.ballot ≡ ballot) = is_at_begun members calls attempt slot ballot holds at in
    let ended : ends begun (Nacks slot ballot) ≡ true = rw one.0 (ended_by holds.begun slot ballot there.0 there.1) in
    let differ : true ≡ false = sym ended ∙ was.not_ended in
    absurd (cc)

pub held_on : (members : ℕ) (calls : List ProposerCall) (held : Option Attempt) (slot : ℕ) (ballot : Ballot) → (IsAt held slot ballot → ⊥) → HoldsOpen members calls held → HoldsOpen members (calls ++ Nacks slot ballot ∷ []) held
held_on members calls None slot ballot not closed = closed_on members calls (Nacks slot ballot) refl closed
held_on members calls (Some attempt) slot ballot not holds =
    holds_idle members calls (Nacks slot ballot) attempt holds (idle_by_none members calls (Nacks slot ballot) attempt holds (λ at. nack_tells_none holds.begun.reach at slot ballot))
    (not_ended_by (ends holds.begun (Nacks slot ballot)) holds.begun slot ballot refl (λ both. not (begun_is_at members calls attempt slot ballot holds both))) refl
