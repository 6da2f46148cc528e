-- How a proposer stands after one more call.
use Rattle.std.proofs.Common.{◌≡◌, ℕ, suc, max, false, List, [], ◌∷◌, ◌++◌, Option, Some, None, IfNone, OnSome, refl, ap, subst, arith}
use Rattle.ballots.specs.Ballot.{Ballot}
use Rattle.proposer.specs.declared.attempt.Attempt.{Attempt}
use Rattle.ballots.specs.declared.value.Value.{Value}
use Rattle.proposer.specs.Call.{Start, Begun, ProposerCall, Begins, GoesOn}
use Rattle.proposer.specs.Attempting.{highest_begun, next_ballot}
use Rattle.proposer.specs.Counting.{Counts, HoldsAhead}
use Rattle.proposer.specs.State.{ProposerState, HoldsOpen, StateAfter, HasHistory}
use Rattle.proposer.proofs.Lists.{nothing_there}
use Rattle.proposer.proofs.Opening.{highest_begun-push, highest_begun-same, is_begin, no_begin, rises-push, nothing_open, opens}

-- ---- at first, and after a begin

pub stands_at_first : (start : Start) → StateAfter start [] (record { me = start.me; members = start.members; highest_round = start.highest_round; attempt = None })
stands_at_first start = record {
  me = refl;
  members = refl;
  highest_round = refl;
  rises = record { each = λ before after begun split. absurd (nothing_there before (Begins begun) after split) };
  attempt = nothing_open;
}

same_begun : (b c : Begun) → Begins b ≡ Begins c → b ≡ c
same_begun b c e = cc

-- a ballot of the next round is the highest that was begun
next_is_highest : (highest seen round : ℕ) → round ≡ suc (max seen highest) → round ≡ max highest round
next_is_highest highest seen round next = omega (arith, next)

pub stands_after_begin : (start : Start) (calls : List ProposerCall) (old : ProposerState) (begun : Begun) (attempt : Attempt) (round : ℕ) → StateAfter start calls old
    → begun.ballot ≡ next_ballot old.me old.highest_round begun.seen_round → round ≡ begun.ballot.round
    → attempt.slot ≡ begun.slot → attempt.ballot ≡ begun.ballot → ((members : ℕ) → Counts members begun.candidate [] attempt)
    → ((members : ℕ) → HoldsAhead members begun [] attempt.counted attempt.ahead)
    → StateAfter start (calls ++ Begins begun ∷ []) (record { me = old.me; members = old.members; highest_round = round; attempt = Some attempt })
stands_after_begin start calls old begun attempt round stands next round_is slot_is ballot_is counts ahead =
    let next_there : begun.ballot ≡ next_ballot start.me (highest_begun start.highest_round calls) begun.seen_round = rw (← stands.me, ← stands.highest_round) next in
    record {
      me = stands.me;
      members = stands.members;
      highest_round = rw (round_is, highest_begun-push start.highest_round calls begun) (next_is_highest (highest_begun start.highest_round calls) begun.seen_round begun.ballot.round (ap (λ (b : Ballot). b.round) next_there));
      rises = rises-push start.me start.highest_round calls (Begins begun) stands.rises (λ another is. subst (λ (b : Begun). b.ballot ≡ next_ballot start.me (highest_begun start.highest_round calls) b.seen_round) (same_begun begun another is) next_there);
      attempt = record {
        begun = begun;
        since = [];
        open_is = opens calls begun;
        slot_is = slot_is;
        ballot_is = ballot_is;
        counts = counts start.members;
        ahead = ahead start.members;
      };
    }

-- ---- after a call that begins nothing

-- what does not touch the attempt leaves the rest too
pub stands_after : (start : Start) (calls : List ProposerCall) (call : ProposerCall) (old : ProposerState) (attempt : Option Attempt) → is_begin call ≡ false → StateAfter start calls old
    → HoldsOpen start.members (calls ++ call ∷ []) attempt
    → StateAfter start (calls ++ call ∷ []) (record { me = old.me; members = old.members; highest_round = old.highest_round; attempt = attempt })
stands_after start calls call old attempt begins_none stands holds = record {
  me = stands.me;
  members = stands.members;
  highest_round = rw (highest_begun-same start.highest_round calls call begins_none) stands.highest_round;
  rises = rises-push start.me start.highest_round calls call stands.rises (λ begun is. absurd (no_begin call begun begins_none is));
  attempt = holds;
}

-- a call that goes on where something is given, and is none where nothing is
pub history_further : {A : Type 0} (given : Option A) (start : Start) (calls : List ProposerCall) (candidate : Value) (old : ProposerState) (attempt : Option Attempt) → StateAfter start calls old
    → IfNone given (attempt ≡ old.attempt) → OnSome given ((members : ℕ) (calls : List ProposerCall) → HoldsOpen members calls old.attempt → HoldsOpen members (calls ++ GoesOn candidate ∷ []) attempt)
    → HasHistory (record { me = old.me; members = old.members; highest_round = old.highest_round; attempt = attempt })
history_further None start calls candidate old attempt stands none some = rw none (record { start = start; calls = calls; after = stands })
history_further (Some x) start calls candidate old attempt stands none some = record {
  start = start;
  calls = calls ++ GoesOn candidate ∷ [];
  after = stands_after start calls (GoesOn candidate) old attempt refl stands (some start.members calls stands.attempt);
}
