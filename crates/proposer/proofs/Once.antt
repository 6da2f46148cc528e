-- Each ballot has one Accept at most.
use Rattle.std.proofs.Common.{◌≡◌, ℕ, suc, max, ◌<◌, ◌≤◌, List, [], ◌∷◌, ◌++◌, ◌+◌, length, length-append, filter, filter_map, Option, Some, None, inl, refl, sym, ap, subst, ◌∙◌, arith, append_assoc}
use Rattle.std.proofs.lemmas.List.Elements.{filter-append, filter_map-append}
use Rattle.ballots.specs.Ballot.{Ballot, IsBelow}
use Rattle.ballots.specs.declared.value.Value.{Value}
use Rattle.proposer.specs.Call.{Begun, ProposerCall, Begins, Promises, PromisesFrom, GoesOn, Nacks}
use Rattle.proposer.specs.Choosing.{HasMajority, reports_of, Chooses}
use Rattle.proposer.specs.Reporting.{promise_in}
use Rattle.proposer.specs.Attempting.{highest_begun, next_ballot, BallotsIncrease, IsOpen, answering, counted, counted_at, is_for, Proposes, LeadsToAcceptBy, AnswersCall}
use Rattle.proposer.specs.GoingOn.{goes_further, next_slot, GoesOnTo, GoesOnWith, Gives}
use Rattle.proposer.proofs.Lists.{Meet, same, earlier, later, splits}
use Rattle.proposer.proofs.Highest.{chooses_one}
use Rattle.proposer.proofs.Counting.{majority_grows}
use Rattle.proposer.proofs.Opening.{one_open}

-- ---- one answer

same_triple : (a b : ℕ × Ballot × Value) → a.0 ≡ b.0 → a.1 ≡ b.1 → a.2 ≡ b.2 → a ≡ b
same_triple a b slots ballots values =
    ap (λ (x : ℕ). (x, a.1, a.2)) slots ∙ ap (λ (y : Ballot). (b.0, y, a.2)) ballots ∙ ap (λ (z : Value). (b.0, b.1, z)) values

one_accept : (members : ℕ) (calls : List ProposerCall) (call : ProposerCall) (a b : ℕ × Ballot × Value) → LeadsToAcceptBy members calls call a → LeadsToAcceptBy members calls call b → a ≡ b
one_accept members calls call a b one other =
    let both : (one.begun ≡ other.begun) × (one.since ≡ other.since) = one_open calls one.begun other.begun one.since other.since one.open_is other.open_is in
    let slots : a.0 ≡ b.0 = one.slot_is ∙ ap (λ (x : Begun). x.slot) both.0 ∙ sym other.slot_is in
    let ballots : a.1 ≡ b.1 = one.ballot_is ∙ ap (λ (x : Begun). x.ballot) both.0 ∙ sym other.ballot_is in
    let value_there : Proposes members other.begun (other.since ++ call ∷ []) a.2 =
    subst (λ (x : Begun). Proposes members x (other.since ++ call ∷ []) a.2) both.0 (subst (λ (s : List ProposerCall). Proposes members one.begun (s ++ call ∷ []) a.2) both.1 one.value_is) in
    let values : a.2 ≡ b.2 = chooses_one other.begun.candidate (reports_of (counted members other.begun (other.since ++ call ∷ []))) a.2 b.2 value_there other.value_is in
    same_triple a b slots ballots values

pub one_answer : (members : ℕ) (calls : List ProposerCall) (call : ProposerCall) (a b : Option (ℕ × Ballot × Value)) → AnswersCall members calls call a → AnswersCall members calls call b → a ≡ b
one_answer members calls call None None one other = refl
one_answer members calls call None (Some b) one other = absurd (one other.begun other.since other.open_is other.completes)
one_answer members calls call (Some a) None one other = absurd (other one.begun one.since one.open_is one.completes)
one_answer members calls call (Some a) (Some b) one other = ap Some (one_accept members calls call a b one other)

-- ---- ballots rise

pub first_within : (round : ℕ) (calls : List ProposerCall) → round ≤ highest_begun round calls
first_within round [] = omega arith
first_within round (Begins begun ∷ calls) = let more : max round begun.ballot.round ≤ highest_begun (max round begun.ballot.round) calls = first_within (max round begun.ballot.round) calls in omega (arith, more)
first_within round (Promises promise ∷ calls) = first_within round calls
first_within round (PromisesFrom promise ∷ calls) = first_within round calls
first_within round (GoesOn candidate ∷ calls) = first_within round calls
first_within round (Nacks slot ballot ∷ calls) = first_within round calls

begun_within : (round : ℕ) (before after : List ProposerCall) (begun : Begun) → begun.ballot.round ≤ highest_begun round (before ++ Begins begun ∷ after)
begun_within round [] after begun = let more : max round begun.ballot.round ≤ highest_begun (max round begun.ballot.round) after = first_within (max round begun.ballot.round) after in omega (arith, more)
begun_within round (Begins another ∷ before) after begun = begun_within (max round another.ballot.round) before after begun
begun_within round (Promises promise ∷ before) after begun = begun_within round before after begun
begun_within round (PromisesFrom promise ∷ before) after begun = begun_within round before after begun
begun_within round (GoesOn candidate ∷ before) after begun = begun_within round before after begun
begun_within round (Nacks slot ballot ∷ before) after begun = begun_within round before after begun

pub above_next : (highest seen low round : ℕ) → low ≤ highest → round ≡ suc (max seen highest) → low < round
above_next highest seen low round le is = omega (arith, le, is)

-- a later attempt's round is above an earlier one's
round_rises : (me highest : ℕ) (calls before mid after : List ProposerCall) (begun another : Begun) → BallotsIncrease me highest calls → calls ≡ (before ++ Begins begun ∷ mid) ++ Begins another ∷ after → begun.ballot.round < another.ballot.round
round_rises me highest calls before mid after begun another rises split =
    let next : another.ballot ≡ next_ballot me (highest_begun highest (before ++ Begins begun ∷ mid)) another.seen_round = rises.each (before ++ Begins begun ∷ mid) after another split in
    above_next (highest_begun highest (before ++ Begins begun ∷ mid)) another.seen_round begun.ballot.round another.ballot.round (begun_within highest before mid begun) (ap (λ (b : Ballot). b.round) next)

pub ballots_rise : (me highest : ℕ) (before mid after : List ProposerCall) (begun another : Begun) → BallotsIncrease me highest (before ++ Begins begun ∷ (mid ++ Begins another ∷ after)) → IsBelow begun.ballot another.ballot
ballots_rise me highest before mid after begun another rises =
    inl (round_rises me highest (before ++ Begins begun ∷ (mid ++ Begins another ∷ after)) before mid after begun another rises (sym (append_assoc before (Begins begun ∷ mid) (Begins another ∷ after))))

-- the calls at the front rise too
rises_front : (me highest : ℕ) (calls front rest : List ProposerCall) → calls ≡ front ++ rest → BallotsIncrease me highest calls → BallotsIncrease me highest front
rises_front me highest calls front rest split rises = record {
  each = λ before after begun e. rises.each before (after ++ rest) begun (rw (split, e) (append_assoc before (Begins begun ∷ after) rest));
}

-- ---- one Accept

answering-append : (members : ℕ) (begun : Begun) (calls more : List ProposerCall) → answering members begun (calls ++ more) ≡ answering members begun calls ++ answering members begun more
answering-append members begun calls more =
    rw (filter_map-append (promise_in begun.reach begun.slot) calls more)
    (filter-append (is_for members begun) (filter_map (promise_in begun.reach begun.slot) calls) (filter_map (promise_in begun.reach begun.slot) more))

-- with more calls since, the majority is still there
pub majority_later : (members : ℕ) (begun : Begun) (since more : List ProposerCall) → HasMajority members (answering members begun since) → HasMajority members (answering members begun (since ++ more))
majority_later members begun since more majority =
    rw (answering-append members begun since more) (majority_grows members (answering members begun since) (answering members begun more) majority)

majority_there : (members : ℕ) (begun : Begun) (since mid : List ProposerCall) (call : ProposerCall) → HasMajority members (answering members begun (since ++ call ∷ [])) → HasMajority members (answering members begun (since ++ call ∷ mid))
majority_there members begun since mid call majority =
    let e : since ++ call ∷ mid ≡ (since ++ call ∷ []) ++ mid = sym (append_assoc since (call ∷ []) mid) in
    rw e (majority_later members begun (since ++ call ∷ []) mid majority)

-- attempts that are open at one ballot, after some calls and after more, are the same one
module _ (me highest : ℕ) (before mid : List ProposerCall) (call : ProposerCall) (begun begun' : Begun) (since since' : List ProposerCall)
    (rises : BallotsIncrease me highest (before ++ call ∷ mid)) (one : IsOpen before begun since) (other : IsOpen (before ++ call ∷ mid) begun' since')
    (ballots : begun.ballot ≡ begun'.ballot) where
  rounds : begun.ballot.round ≡ begun'.ballot.round
  rounds = ap (λ (b : Ballot). b.round) ballots

  there : before ++ call ∷ mid ≡ one.before ++ Begins begun ∷ (since ++ call ∷ mid)
  there = ap (λ (cs : List ProposerCall). cs ++ call ∷ mid) one.split ∙ append_assoc one.before (Begins begun ∷ since) (call ∷ mid)

  same_where_they_meet : Meet one.before other.before (Begins begun) (Begins begun') (since ++ call ∷ mid) since' → (begun ≡ begun') × (since ++ call ∷ mid ≡ since')
  same_where_they_meet (same b e a) = ((cc), a)
  same_where_they_meet (earlier m a b) =
      let lt : begun.ballot.round < begun'.ballot.round = round_rises me highest (before ++ call ∷ mid) one.before m since' begun begun' rises (rw (← b) other.split) in
      absurd (omega (arith, lt, rounds))
  same_where_they_meet (later m a b) =
      let lt : begun'.ballot.round < begun.ballot.round = round_rises me highest (before ++ call ∷ mid) other.before m (since ++ call ∷ mid) begun' begun rises (rw (← b) there) in
      absurd (omega (arith, lt, rounds))

  pub same_attempt : (begun ≡ begun') × (since ++ call ∷ mid ≡ since')
  same_attempt = same_where_they_meet (splits one.before other.before (Begins begun) (Begins begun') (since ++ call ∷ mid) since' (sym there ∙ other.split))

module _ (me highest members : ℕ) (before mid : List ProposerCall) (call call' : ProposerCall) (accept accept' : ℕ × Ballot × Value)
    (rises : BallotsIncrease me highest (before ++ call ∷ mid)) (ballots : accept.1 ≡ accept'.1) where
  -- a majority that was there is there, so nothing completes it
  no_second_after : (begun : Begun) (since : List ProposerCall) → IsOpen before begun since → accept.1 ≡ begun.ballot → HasMajority members (answering members begun (since ++ call ∷ mid))
      → LeadsToAcceptBy members (before ++ call ∷ mid) call' accept' → ⊥
  no_second_after begun since is_open ballot_is majority other =
      let one : (begun ≡ other.begun) × (since ++ call ∷ mid ≡ other.since) = same_attempt me highest before mid call begun other.begun since other.since rises is_open other.open_is (sym ballot_is ∙ ballots ∙ other.ballot_is) in
      other.completes.before (subst (λ (x : Begun). HasMajority members (answering members x other.since)) one.0 (subst (λ (s : List ProposerCall). HasMajority members (answering members begun s)) one.1 majority))

  no_second : LeadsToAcceptBy members before call accept → LeadsToAcceptBy members (before ++ call ∷ mid) call' accept' → ⊥
  no_second one other =
      no_second_after one.begun one.since one.open_is one.ballot_is (majority_there members one.begun one.since mid call one.completes.now) other

module _ (me highest members : ℕ) (calls : List ProposerCall) (rises : BallotsIncrease me highest calls) (before before' after after' : List ProposerCall) (call call' : ProposerCall) (accept accept' : ℕ × Ballot × Value)
    (split : calls ≡ before ++ call ∷ after) (split' : calls ≡ before' ++ call' ∷ after')
    (one : LeadsToAcceptBy members before call accept) (other : LeadsToAcceptBy members before' call' accept') (ballots : accept.1 ≡ accept'.1) where
  once_where_they_meet : Meet before before' call call' after after' → (before ≡ before') × (call ≡ call') × (accept ≡ accept')
  once_where_they_meet (same b e a) =
      (b, e, one_accept members before' call' accept accept' (subst (λ (p : ProposerCall). LeadsToAcceptBy members before' p accept) e (subst (λ (cs : List ProposerCall). LeadsToAcceptBy members cs call accept) b one)) other)
  once_where_they_meet (earlier mid a b) =
      absurd (no_second me highest members before mid call call' accept accept'
      (rw (← b) (rises_front me highest calls before' (call' ∷ after') split' rises)) ballots one (subst (λ (cs : List ProposerCall). LeadsToAcceptBy members cs call' accept') b other))
  once_where_they_meet (later mid a b) =
      absurd (no_second me highest members before' mid call' call accept' accept
      (rw (← b) (rises_front me highest calls before (call ∷ after) split rises)) (sym ballots) other (subst (λ (cs : List ProposerCall). LeadsToAcceptBy members cs call accept) b one))

  pub once : (before ≡ before') × (call ≡ call') × (accept ≡ accept')
  once = once_where_they_meet (splits before before' call call' after after' (sym split ∙ split'))

-- ---- one Accept for each slot

-- what is given is one
pub one_going : (members : ℕ) (calls : List ProposerCall) (candidate : Value) (a b : ℕ × Ballot × Value) → GoesOnTo members calls candidate a → GoesOnTo members calls candidate b → a ≡ b
one_going members calls candidate a b one other =
    let both : (one.may.begun ≡ other.may.begun) × (one.may.since ≡ other.may.since) = one_open calls one.may.begun other.may.begun one.may.since other.may.since one.may.open_is other.may.open_is in
    let slots : a.0 ≡ b.0 = one.may.slot_is ∙ ap (λ (x : Begun). next_slot x one.may.since) both.0 ∙ ap (next_slot other.may.begun) both.1 ∙ sym other.may.slot_is in
    let ballots : a.1 ≡ b.1 = one.ballot_is ∙ ap (λ (x : Begun). x.ballot) both.0 ∙ sym other.ballot_is in
    let value_there : Chooses candidate (reports_of (counted_at members other.may.begun b.0 other.may.since)) a.2 =
    subst (λ (n : ℕ). Chooses candidate (reports_of (counted_at members other.may.begun n other.may.since)) a.2) slots
    (subst (λ (x : Begun). Chooses candidate (reports_of (counted_at members x a.0 other.may.since)) a.2) both.0
    (subst (λ (s : List ProposerCall). Chooses candidate (reports_of (counted_at members one.may.begun a.0 s)) a.2) both.1 one.value_is)) in
    same_triple a b slots ballots (chooses_one candidate (reports_of (counted_at members other.may.begun b.0 other.may.since)) a.2 b.2 value_there other.value_is)

pub goings_are_one : (members : ℕ) (calls : List ProposerCall) (candidate : Value) (a b : Option (ℕ × Ballot × Value)) → GoesOnWith members calls candidate a → GoesOnWith members calls candidate b → a ≡ b
goings_are_one members calls candidate None None one other = refl
goings_are_one members calls candidate None (Some b) one other = absurd (one b.0 other.may)
goings_are_one members calls candidate (Some a) None one other = absurd (other a.0 one.may)
goings_are_one members calls candidate (Some a) (Some b) one other = ap Some (one_going members calls candidate a b one other)

next_behind : (begun : Begun) (since mid : List ProposerCall) (candidate : Value) → next_slot begun since < next_slot begun (since ++ GoesOn candidate ∷ mid)
next_behind begun since mid candidate =
    let long : length (filter goes_further since ++ GoesOn candidate ∷ filter goes_further mid) ≡ length (filter goes_further since) + suc (length (filter goes_further mid)) =
    length-append (filter goes_further since) (GoesOn candidate ∷ filter goes_further mid) in
    rw (filter-append goes_further since (GoesOn candidate ∷ mid)) (omega (arith, long))

-- what a call gives, by what it is
data Given (members : ℕ) (calls : List ProposerCall) (call : ProposerCall) (accept : ℕ × Ballot × Value) : Type 0 where
  first : LeadsToAcceptBy members calls call accept → Given members calls call accept
  further : (candidate : Value) → call ≡ GoesOn candidate → GoesOnTo members calls candidate accept → Given members calls call accept

given : (members : ℕ) (calls : List ProposerCall) (call : ProposerCall) (accept : ℕ × Ballot × Value) → Gives members calls call accept → Given members calls call accept
given members calls (Begins begun) accept gives = absurd gives
given members calls (Promises promise) accept gives = first gives
given members calls (PromisesFrom promise) accept gives = first gives
given members calls (GoesOn candidate) accept gives = further candidate refl gives
given members calls (Nacks slot ballot) accept gives = absurd gives

pub one_given : (members : ℕ) (calls : List ProposerCall) (call : ProposerCall) (a b : ℕ × Ballot × Value) → Gives members calls call a → Gives members calls call b → a ≡ b
one_given members calls (Begins begun) a b one other = absurd one
one_given members calls (Promises promise) a b one other = one_accept members calls (Promises promise) a b one other
one_given members calls (PromisesFrom promise) a b one other = one_accept members calls (PromisesFrom promise) a b one other
one_given members calls (GoesOn candidate) a b one other = one_going members calls candidate a b one other
one_given members calls (Nacks slot ballot) a b one other = absurd one

module _ (me highest members : ℕ) (before mid : List ProposerCall) (call call' : ProposerCall) (accept accept' : ℕ × Ballot × Value)
    (rises : BallotsIncrease me highest (before ++ call ∷ mid)) (slots : accept.0 ≡ accept'.0) (ballots : accept.1 ≡ accept'.1) where
  no_more : Given members before call accept → Given members (before ++ call ∷ mid) call' accept' → ⊥
  no_more (first one) (first other) = no_second me highest members before mid call call' accept accept' rises ballots one other
  no_more (further candidate is one) (first other) =
      no_second_after me highest members before mid call call' accept accept' rises ballots one.may.begun one.may.since one.may.open_is one.ballot_is
      (majority_later members one.may.begun one.may.since (call ∷ mid) one.may.majority) other
  no_more (first one) (further candidate' is' other) =
      let both = same_attempt me highest before mid call one.begun other.may.begun one.since other.may.since rises one.open_is other.may.open_is (sym one.ballot_is ∙ ballots ∙ other.ballot_is) in
      let same_slot : one.begun.slot ≡ other.may.begun.slot = ap (λ (b : Begun). b.slot) both.0 in
      let there : accept'.0 ≡ suc (other.may.begun.slot + length (filter goes_further other.may.since)) = other.may.slot_is in
      omega (arith, slots, one.slot_is, same_slot, there)
  no_more (further candidate is one) (further candidate' is' other) =
      let both = same_attempt me highest before mid call one.may.begun other.may.begun one.may.since other.may.since rises one.may.open_is other.may.open_is (sym one.ballot_is ∙ ballots ∙ other.ballot_is) in
      let behind : next_slot one.may.begun one.may.since < next_slot one.may.begun (one.may.since ++ call ∷ mid) =
      subst (λ (c : ProposerCall). next_slot one.may.begun one.may.since < next_slot one.may.begun (one.may.since ++ c ∷ mid)) (sym is) (next_behind one.may.begun one.may.since mid candidate) in
      let there : next_slot one.may.begun (one.may.since ++ call ∷ mid) ≡ next_slot other.may.begun other.may.since =
      ap (λ (b : Begun). next_slot b (one.may.since ++ call ∷ mid)) both.0 ∙ ap (next_slot other.may.begun) both.1 in
      let at : accept.0 ≡ next_slot one.may.begun one.may.since = one.may.slot_is in
      let at' : accept'.0 ≡ next_slot other.may.begun other.may.since = other.may.slot_is in
      apart (next_slot one.may.begun one.may.since) (next_slot one.may.begun (one.may.since ++ call ∷ mid)) behind (sym at ∙ slots ∙ at' ∙ sym there)
    where
      apart : (m n : ℕ) → m < n → m ≡ n → ⊥
      apart m n lt is_same = omega (arith, lt, is_same)

module _ (me highest members : ℕ) (calls : List ProposerCall) (rises : BallotsIncrease me highest calls) (before before' after after' : List ProposerCall) (call call' : ProposerCall) (accept accept' : ℕ × Ballot × Value)
    (split : calls ≡ before ++ call ∷ after) (split' : calls ≡ before' ++ call' ∷ after')
    (one : Gives members before call accept) (other : Gives members before' call' accept') (slots : accept.0 ≡ accept'.0) (ballots : accept.1 ≡ accept'.1) where
  one_slot_where_they_meet : Meet before before' call call' after after' → (before ≡ before') × (call ≡ call') × (accept ≡ accept')
  one_slot_where_they_meet (same b e a) =
      (b, e, one_given members before' call' accept accept' (subst (λ (p : ProposerCall). Gives members before' p accept) e (subst (λ (cs : List ProposerCall). Gives members cs call accept) b one)) other)
  one_slot_where_they_meet (earlier mid a b) =
      absurd (no_more me highest members before mid call call' accept accept'
      (rw (← b) (rises_front me highest calls before' (call' ∷ after') split' rises)) slots ballots (given members before call accept one)
      (given members (before ++ call ∷ mid) call' accept' (subst (λ (cs : List ProposerCall). Gives members cs call' accept') b other)))
  one_slot_where_they_meet (later mid a b) =
      absurd (no_more me highest members before' mid call' call accept' accept
      (rw (← b) (rises_front me highest calls before (call ∷ after) split rises)) (sym slots) (sym ballots) (given members before' call' accept' other)
      (given members (before' ++ call' ∷ mid) call accept (subst (λ (cs : List ProposerCall). Gives members cs call accept) b one)))

  pub once_a_slot : (before ≡ before') × (call ≡ call') × (accept ≡ accept')
  once_a_slot = one_slot_where_they_meet (splits before before' call call' after after' (sym split ∙ split'))
