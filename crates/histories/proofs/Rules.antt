-- What the rules of Paxos let be said of a slot, by what was said of it before; and that a slot is lawful of which nothing else
-- is said.
use Rattle.std.proofs.Common.{◌≡◌, ℕ, ◌<◌, ◌⊎◌, inl, inr, IsTrue, List, length, Some, None, sym, subst, ◌∙◌, arith}
use Rattle.std.proofs.lemmas.Bool.{cases_lt}
use Rattle.ballots.specs.Ballot.{Ballot, IsBelow}
use Rattle.ballots.specs.declared.value.Value.{Value}
use Rattle.ballots.specs.declared.message.Message.{Message}
use Rattle.ballots.specs.Acceptance.{acceptance}
use Rattle.lawful_histories.specs.Saying.{Report, IsUpTo, Saying, Silent, Prepare, Promise, Accept, Accepted, Decided, says, sayings}
use Rattle.lawful_histories.specs.Majorities.{MajorityOf}
use Rattle.lawful_histories.specs.Lawful.{Said, SaidBefore, IsOfHighestReport, MayBeProposed, IsLawfulSlot}
use Rattle.histories.proofs.Sayings.{WasSaidBefore}

-- ---- by kind, where `Was` tells what was said of the slot before

abbrev pub AllowsReport : (Saying → Type 0) → ℕ → Ballot → Report → Type 0
AllowsReport Was a b None = (c : Ballot) (v : Value) → Was (Accepted a c v) → ⊥
AllowsReport Was a b (Some x) =
    IsBelow x.ballot b × Was (Accept x.ballot x.value)
    × ((d : Ballot) (w : Value) → Was (Accepted a d w) → IsBelow x.ballot d → ⊥)

pub record AllowsPromise (Was : Saying → Type 0) (a : ℕ) (b : Ballot) (r : Report) : Type 0 where
  pub above_promise : (c : Ballot) (q : Report) → Was (Promise a c q) → IsBelow c b
  pub above_accepted : (c : Ballot) (v : Value) → Was (Accepted a c v) → IsBelow c b
  pub report : AllowsReport Was a b r

pub record AllowsAccepted (Was : Saying → Type 0) (a : ℕ) (b : Ballot) (v : Value) : Type 0 where
  pub proposed : Was (Accept b v)
  pub above_promise : (c : Ballot) (r : Report) → Was (Promise a c r) → IsBelow b c → ⊥
  pub above_accepted : (c : Ballot) (u : Value) → Was (Accepted a c u) → IsBelow b c → ⊥

pub record HasHighest (n : ℕ) (Was : Saying → Type 0) (b : Ballot) (v : Value) : Type 0 where
  pub highest : Ballot
  pub promised : MajorityOf n (λ a. (r : Report) × Was (Promise a b r) × IsUpTo r highest)
  pub reporter : ℕ
  pub is_member : reporter < n
  pub is_in : IsTrue (promised.is_in reporter)
  pub reported : Was (Promise reporter b (Some (acceptance highest v)))

abbrev pub IsSafeAt : ℕ → (Saying → Type 0) → Ballot → Value → Type 0
IsSafeAt n Was b v = MajorityOf n (λ a. Was (Promise a b None)) ⊎ HasHighest n Was b v

pub record AllowsAccept (n : ℕ) (Was : Saying → Type 0) (b : Ballot) (v : Value) : Type 0 where
  pub one_value : (w : Value) → Was (Accept b w) → w ≡ v
  pub safe : IsSafeAt n Was b v

abbrev pub AllowsDecided : ℕ → (Saying → Type 0) → Value → Type 0
AllowsDecided n Was v = (b : Ballot) × MajorityOf n (λ a. Was (Accepted a b v))

abbrev pub AllowsSaying : ℕ → (Saying → Type 0) → Saying → Type 0
AllowsSaying n Was Silent = Unit {0}
AllowsSaying n Was (Prepare b) = Unit {0}
AllowsSaying n Was (Promise a b r) = AllowsPromise Was a b r
AllowsSaying n Was (Accept b v) = AllowsAccept n Was b v
AllowsSaying n Was (Accepted a b v) = AllowsAccepted Was a b v
AllowsSaying n Was (Decided v) = AllowsDecided n Was v

-- of each slot, what the message says of it, where `WasSaid` tells what was said of which slot before
abbrev pub Allows : ℕ → (ℕ → Saying → Type 0) → Message → Type 0
Allows n WasSaid m = (s : ℕ) → AllowsSaying n (WasSaid s) (says m s)

-- of each slot, what is said of it before this place
abbrev pub AreAllowed : ℕ → List Message → ℕ → Type 0
AreAllowed n sent next = (s k : ℕ) (x : Saying) → k < next → Said (sayings sent s) k x → AllowsSaying n (WasSaidBefore sent k s) x

-- ---- the rules, for what is said of one slot

one_proposal : (b : Ballot) (v w : Value) → Accept b v ≡ Accept b w → v ≡ w
one_proposal b v w alike = cc

-- before this place
module _ (n : ℕ) (xs : List Saying) (next : ℕ) (allowed : (k : ℕ) (x : Saying) → k < next → Said xs k x → AllowsSaying n (SaidBefore xs k) x) where
  at_one_place : (k : ℕ) (b : Ballot) (v w : Value) → Said xs k (Accept b v) → Said xs k (Accept b w) → v ≡ w
  at_one_place k b v w first second = one_proposal b v w (sym first.1 ∙ second.1)

  accept_of : (k : ℕ) (b : Ballot) (v : Value) → k < next → Said xs k (Accept b v) → AllowsAccept n (SaidBefore xs k) b v
  accept_of k b v lt h = allowed k (Accept b v) lt h

  one_value : (j k : ℕ) (b : Ballot) (v w : Value) → j < next → k < next → Said xs j (Accept b v) → Said xs k (Accept b w) → v ≡ w
  one_value j k b v w lt_j lt_k first second =
      elim (cases_lt j k) as (λ _. v ≡ w) [
        | inl lt ↦ (accept_of k b w lt_k second).one_value v (j, lt, first)
        | inr ge ↦ elim (cases_lt k j) as (λ _. v ≡ w) [
          | inl gt ↦ sym ((accept_of j b v lt_j first).one_value w (k, gt, second))
          | inr le ↦
              let same : j ≡ k = omega (arith, ge, le) in
              at_one_place k b v w (subst (λ (i : ℕ). Said xs i (Accept b v)) same first) second
        ]
      ]

  before_later : (j : ℕ) (x : Saying) → j < next → SaidBefore xs j x → SaidBefore xs next x
  before_later j x lt h = (h.0, omega (arith, h.1, lt), h.2)

  pub one_value_before : (b : Ballot) (v w : Value) → SaidBefore xs next (Accept b v) → SaidBefore xs next (Accept b w) → v ≡ w
  one_value_before b v w first second = one_value first.0 second.0 b v w first.1 second.1 first.2 second.2

  pub accepted_was_proposed : (a : ℕ) (b : Ballot) (v : Value) → SaidBefore xs next (Accepted a b v) → SaidBefore xs next (Accept b v)
  accepted_was_proposed a b v h =
      let it : AllowsAccepted (SaidBefore xs h.0) a b v = allowed h.0 (Accepted a b v) h.1 h.2 in
      before_later h.0 (Accept b v) h.1 it.proposed

  pub decided_was_chosen : (v : Value) → SaidBefore xs next (Decided v) → AllowsDecided n (SaidBefore xs next) v
  decided_was_chosen v h =
      let it : AllowsDecided n (SaidBefore xs h.0) v = allowed h.0 (Decided v) h.1 h.2 in (
        it.0,
        record {
          is_in = it.1.is_in;
          majority = it.1.majority;
          each = λ a lt in'. before_later h.0 (Accepted a it.0 v) h.1 (it.1.each a lt in');
        },
      )

module _ (n : ℕ) (xs : List Saying) (allowed : (k : ℕ) (x : Saying) → k < length xs → Said xs k x → AllowsSaying n (SaidBefore xs k) x) where
  promise_of : (k a : ℕ) (b : Ballot) (r : Report) → Said xs k (Promise a b r) → AllowsPromise (SaidBefore xs k) a b r
  promise_of k a b r h = allowed k (Promise a b r) h.0 h

  report_of : (k a : ℕ) (b : Ballot) (r : Report) → Said xs k (Promise a b r) → AllowsReport (SaidBefore xs k) a b r
  report_of k a b r h = (promise_of k a b r h).report

  accepted_of : (k a : ℕ) (b : Ballot) (v : Value) → Said xs k (Accepted a b v) → AllowsAccepted (SaidBefore xs k) a b v
  accepted_of k a b v h = allowed k (Accepted a b v) h.0 h

  highest_of : (k : ℕ) (b : Ballot) (v : Value) → HasHighest n (SaidBefore xs k) b v → IsOfHighestReport n xs k b v
  highest_of k b v h = record {
    highest = h.highest;
    promised = h.promised;
    reporter = h.reporter;
    is_member = h.is_member;
    is_in = h.is_in;
    reported = h.reported;
  }

  safe_of : (k : ℕ) (b : Ballot) (v : Value) → Said xs k (Accept b v) → MayBeProposed n xs k b v
  safe_of k b v h =
      let it : AllowsAccept n (SaidBefore xs k) b v = allowed k (Accept b v) h.0 h in
      elim it.safe as (λ _. MayBeProposed n xs k b v) [
        | inl free ↦ inl free
        | inr top ↦ inr (highest_of k b v top)
      ]

  pub slot_is_lawful : IsLawfulSlot n xs
  slot_is_lawful = record {
    accepts_what_was_proposed = λ k a b v h. (accepted_of k a b v h).proposed;
    keeps_its_promise = record {
      accepts = λ j k a b c v lt binds h. elim binds as (λ _. IsBelow c b → ⊥) [
        | inl promise ↦ (accepted_of k a c v h).above_promise b promise.0 (j, lt, promise.1)
        | inr vote ↦ (accepted_of k a c v h).above_accepted b vote.0 (j, lt, vote.1)
      ];
      promises = λ j k a b c r lt binds h. elim binds as (λ _. IsBelow b c) [
        | inl promise ↦ (promise_of k a c r h).above_promise b promise.0 (j, lt, promise.1)
        | inr vote ↦ (promise_of k a c r h).above_accepted b vote.0 (j, lt, vote.1)
      ];
    };
    reports_its_highest = record {
      nothing = λ k a b h j c v lt vote. report_of k a b None h c v (j, lt, vote);
      below = λ k a b c v h. (report_of k a b (Some (acceptance c v)) h).0;
      proposed = λ k a b c v h. (report_of k a b (Some (acceptance c v)) h).1;
      highest = λ k a b c v h j d w lt vote. (report_of k a b (Some (acceptance c v)) h).2 d w (j, lt, vote);
    };
    one_value_a_ballot = λ j k b v w h i. one_value n xs (length xs) allowed j k b v w h.0 i.0 h i;
    proposes_what_is_safe = safe_of;
    decides_what_was_chosen = λ k v h. allowed k (Decided v) h.0 h;
  }
