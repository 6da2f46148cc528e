-- Which attempt is open after one more call, by its slot and ballot.
use Rattle.std.proofs.Common.{◌≡◌, ℕ, false, List, [], ◌∷◌, ◌++◌, Option, Some, None, refl, sym, ap, arith}
use Rattle.ballots.specs.Ballot.{Ballot}
use Rattle.proposer.specs.Call.{Begun, ProposerCall, Begins}
use Rattle.proposer.specs.Attempting.{ends, IsAttempt}
use Rattle.proposer.specs.declared.attempt.Attempt.{Attempt}
use Rattle.proposer.specs.Promised.{Reaches}
use Rattle.proposer.specs.Kept.{AheadState}
use Rattle.proposer.specs.Counting.{IsAt, reach_by}
use Rattle.proposer.specs.State.{place_of}
use Rattle.proposer.proofs.Opening.{opens, was_open, WasOpen, still_open, is_begin}

pub attempt_opens : (calls : List ProposerCall) (begun : Begun) → IsAttempt (calls ++ Begins begun ∷ []) (Some (begun.slot, begun.ballot))
attempt_opens calls begun = (begun, [], opens calls begun, refl)

-- a call that begins nothing and ends nothing
pub attempt_goes_on : (calls : List ProposerCall) (call : ProposerCall) (attempt : Option (ℕ × Ballot)) → is_begin call ≡ false → ((begun : Begun) → ends begun call ≡ false) → IsAttempt calls attempt → IsAttempt (calls ++ call ∷ []) attempt
attempt_goes_on calls call None begins_none not closed = λ begun since is_open.
    let was : WasOpen calls call begun since = was_open calls call begun since begins_none is_open in
    closed begun was.rest was.open_is
attempt_goes_on calls call (Some attempt) begins_none not is = (is.0, is.1 ++ call ∷ [], still_open calls is.0 is.1 call (not is.0) is.2, is.3)

-- an attempt is for its own slot
reaches_own : (ahead : Option AheadState) (first slot : ℕ) → first ≡ slot → Reaches (reach_by ahead) first slot
reaches_own None first slot same = sym same
reaches_own (Some ahead) first slot same = omega (arith, same)

same_place : (a b : ℕ × Ballot) → Some a ≡ Some b → a ≡ b
same_place a b e = cc

pub own_is_at : (held : Option Attempt) (slot : ℕ) (ballot : Ballot) → place_of held ≡ Some (slot, ballot) → IsAt held slot ballot
own_is_at None slot ballot is = absurd (cc)
own_is_at (Some attempt) slot ballot is =
    let same : (attempt.slot, attempt.ballot) ≡ (slot, ballot) = same_place (attempt.slot, attempt.ballot) (slot, ballot) is in
    (reaches_own attempt.ahead attempt.slot slot (ap (λ (p : ℕ × Ballot). p.0) same), ap (λ (p : ℕ × Ballot). p.1) same)
