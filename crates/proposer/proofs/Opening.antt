-- Which attempt is open after one more call.
use Rattle.std.proofs.Common.{◌≡◌, ℕ, max, ◌&&◌, Bool, true, false, List, [], ◌∷◌, ◌++◌, refl, sym, subst, ◌∙◌, append_assoc}
use Rattle.proposer.specs.Call.{Begun, ProposerCall, Begins, Promises, PromisesFrom, GoesOn, Nacks}
use Rattle.proposer.specs.Attempting.{highest_begun, next_ballot, BallotsIncrease, ends, IsOpen}
use Rattle.proposer.proofs.Lists.{all-append, all_there, all_front, Meet, same, earlier, later, splits, nothing_there}

-- ---- ballots

pub both_true : (x y : Bool) → (x && y) ≡ true → (x ≡ true) × (y ≡ true)
both_true true true e = (refl, refl)
both_true true false e = (refl, e)
both_true false true e = (e, refl)
both_true false false e = (e, e)

pub highest_begun-push : (round : ℕ) (calls : List ProposerCall) (begun : Begun) → highest_begun round (calls ++ Begins begun ∷ []) ≡ max (highest_begun round calls) begun.ballot.round
highest_begun-push round [] begun = refl
highest_begun-push round (Begins another ∷ calls) begun = highest_begun-push (max round another.ballot.round) calls begun
highest_begun-push round (Promises promise ∷ calls) begun = highest_begun-push round calls begun
highest_begun-push round (PromisesFrom promise ∷ calls) begun = highest_begun-push round calls begun
highest_begun-push round (GoesOn candidate ∷ calls) begun = highest_begun-push round calls begun
highest_begun-push round (Nacks slot ballot ∷ calls) begun = highest_begun-push round calls begun

-- a call that begins nothing
abbrev pub is_begin : ProposerCall → Bool
is_begin (Begins begun) = true
is_begin (Promises promise) = false
is_begin (PromisesFrom promise) = false
is_begin (GoesOn candidate) = false
is_begin (Nacks slot ballot) = false

pub highest_begun-same : (round : ℕ) (calls : List ProposerCall) (call : ProposerCall) → is_begin call ≡ false → highest_begun round (calls ++ call ∷ []) ≡ highest_begun round calls
highest_begun-same round [] (Begins begun) begins_none = absurd (cc)
highest_begun-same round [] (Promises promise) begins_none = refl
highest_begun-same round [] (PromisesFrom promise) begins_none = refl
highest_begun-same round [] (GoesOn candidate) begins_none = refl
highest_begun-same round [] (Nacks slot ballot) begins_none = refl
highest_begun-same round (Begins another ∷ calls) call begins_none = highest_begun-same (max round another.ballot.round) calls call begins_none
highest_begun-same round (Promises promise ∷ calls) call begins_none = highest_begun-same round calls call begins_none
highest_begun-same round (PromisesFrom promise ∷ calls) call begins_none = highest_begun-same round calls call begins_none
highest_begun-same round (GoesOn candidate ∷ calls) call begins_none = highest_begun-same round calls call begins_none
highest_begun-same round (Nacks slot ballot ∷ calls) call begins_none = highest_begun-same round calls call begins_none

module _ (me highest : ℕ) (calls : List ProposerCall) (call : ProposerCall) (rises : BallotsIncrease me highest calls)
    (last : (begun : Begun) → call ≡ Begins begun → begun.ballot ≡ next_ballot me (highest_begun highest calls) begun.seen_round) where
  by_meeting : (before after : List ProposerCall) (begun : Begun) → Meet calls before call (Begins begun) [] after → begun.ballot ≡ next_ballot me (highest_begun highest before) begun.seen_round
  by_meeting before after begun (same b e a) = subst (λ (cs : List ProposerCall). begun.ballot ≡ next_ballot me (highest_begun highest cs) begun.seen_round) b (last begun e)
  by_meeting before after begun (earlier mid a b) = absurd (nothing_there mid (Begins begun) after a)
  by_meeting before after begun (later mid a b) = rises.each before mid begun b

  -- one more call, whose ballot is the next one if it begins an attempt
  pub rises-push : BallotsIncrease me highest (calls ++ call ∷ [])
  rises-push = record { each = λ before after begun split. by_meeting before after begun (splits calls before call (Begins begun) [] after split) }

pub no_begin : (call : ProposerCall) (begun : Begun) → is_begin call ≡ false → call ≡ Begins begun → ⊥
no_begin call begun begins_none is = let not : is_begin (Begins begun) ≡ false = subst (λ (k : ProposerCall). is_begin k ≡ false) is begins_none in cc

-- ---- what is open

pub nothing_open : (begun : Begun) (since : List ProposerCall) → IsOpen [] begun since → ⊥
nothing_open begun since is_open = nothing_there is_open.before (Begins begun) since is_open.split

pub opens : (calls : List ProposerCall) (begun : Begun) → IsOpen (calls ++ Begins begun ∷ []) begun []
opens calls begun = record { before = calls; split = refl; goes_on = tt }

-- what is open goes on with a call that does not end it
pub still_open : (calls : List ProposerCall) (begun : Begun) (since : List ProposerCall) (call : ProposerCall) → ends begun call ≡ false → IsOpen calls begun since → IsOpen (calls ++ call ∷ []) begun (since ++ call ∷ [])
still_open calls begun since call not is_open = record {
  before = is_open.before;
  split = rw is_open.split (append_assoc is_open.before (Begins begun ∷ since) (call ∷ []));
  goes_on = all-append (λ k. ends begun k ≡ false) since (call ∷ []) is_open.goes_on (not, tt);
}

one_open_where_they_meet : (calls : List ProposerCall) (begun begun' : Begun) (since since' : List ProposerCall) (one : IsOpen calls begun since) (other : IsOpen calls begun' since')
    → Meet one.before other.before (Begins begun) (Begins begun') since since' → (begun ≡ begun') × (since ≡ since')
one_open_where_they_meet calls begun begun' since since' one other (same b e a) = ((cc), a)
one_open_where_they_meet calls begun begun' since since' one other (earlier mid a b) =
    absurd (let differ : true ≡ false = all_there (λ k. ends begun k ≡ false) since mid since' (Begins begun') a one.goes_on in cc)
one_open_where_they_meet calls begun begun' since since' one other (later mid a b) =
    absurd (let differ : true ≡ false = all_there (λ k. ends begun' k ≡ false) since' mid since (Begins begun) a other.goes_on in cc)

-- what is open is one
pub one_open : (calls : List ProposerCall) (begun begun' : Begun) (since since' : List ProposerCall) → IsOpen calls begun since → IsOpen calls begun' since' → (begun ≡ begun') × (since ≡ since')
one_open calls begun begun' since since' one other =
    one_open_where_they_meet calls begun begun' since since' one other (splits one.before other.before (Begins begun) (Begins begun') since since' (sym one.split ∙ other.split))

-- what is open after a call that begins nothing was open before it, and was not ended by it
pub record WasOpen (calls : List ProposerCall) (call : ProposerCall) (begun : Begun) (since : List ProposerCall) : Type 0 where
  pub rest : List ProposerCall
  pub since_is : since ≡ rest ++ call ∷ []
  pub open_is : IsOpen calls begun rest
  pub not_ended : ends begun call ≡ false

was_open_where_they_meet : (calls : List ProposerCall) (call : ProposerCall) (begun : Begun) (since : List ProposerCall) → is_begin call ≡ false → (is_open : IsOpen (calls ++ call ∷ []) begun since)
    → Meet is_open.before calls (Begins begun) call since [] → WasOpen calls call begun since
was_open_where_they_meet calls call begun since begins_none is_open (same b e a) = absurd (no_begin call begun begins_none (sym e))
was_open_where_they_meet calls call begun since begins_none is_open (earlier mid a b) = record {
  rest = mid;
  since_is = a;
  open_is = record { before = is_open.before; split = b; goes_on = all_front (λ k. ends begun k ≡ false) mid (call ∷ []) (rw a at is_open.goes_on) };
  not_ended = all_there (λ k. ends begun k ≡ false) since mid [] call a is_open.goes_on;
}
was_open_where_they_meet calls call begun since begins_none is_open (later mid a b) = absurd (nothing_there mid (Begins begun) since a)

pub was_open : (calls : List ProposerCall) (call : ProposerCall) (begun : Begun) (since : List ProposerCall) → is_begin call ≡ false → IsOpen (calls ++ call ∷ []) begun since → WasOpen calls call begun since
was_open calls call begun since begins_none is_open =
    was_open_where_they_meet calls call begun since begins_none is_open (splits is_open.before calls (Begins begun) call since [] (sym is_open.split))
