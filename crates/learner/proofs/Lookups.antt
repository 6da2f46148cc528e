-- What the look-ups see of a map that a key is put into or taken out of.
use Rattle.std.proofs.Common.{arith, ◌≡◌, ◌≢◌, ℕ, suc, ◌<◌, [], ◌∷◌, ◌||◌, nat_eq, subst, ◌==◌, not, inl, inr, Bool, true, false, IsTrue, Option, Some, None, is_some, unwrap_or, Bor, refl, sym, ap, ◌∙◌, ◌↔◌}
use Rattle.std.proofs.lemmas.Bool.Decides.{eqb_tells}
use Rattle.std.proofs.lemmas.Bool.{cases_eq}
use Rattle.std.proofs.Math.Bool.{or-false}
use Rattle.std.specs.Option.{option_map, option_map_or, option_and_then, option_or}
use Rattle.std.specs.Map.{lookup}
use Rattle.indexmap.specs.IndexMap.{get}
use Rattle.ballots.specs.Ballot.{Ballot, is_same_ballot}
use Rattle.ballots.specs.Majority.{NodeSet, contains, members_in, tally, IsMajority}
use Rattle.ballots.specs.declared.value.Value.{Value}
use Rattle.ballots.proofs.CallerLemmas.{same_ballot_is, tally_same, majority_same}
use Rattle.learner.specs.declared.tally.Tally.{Tally}
use Rattle.learner.specs.Calls.{LearnerCall, Accepted, is_vote_of, first_counted}
use Rattle.learner.specs.State.{LearnerState, Tallies, tally_in, has_vote, decided_at, tally_at, voted_at, first_at, HasRoomForTally}
use Rattle.learner.specs.Learned.{IsSame}
use Rattle.learner.specs.Changes.{Counts, CountsIn, Drops, Puts, IsChosenWith, LearnsNow}
use Rattle.learner.proofs.Settling.{other_apart, or_none, vote_there, vote_other_ballot, counted_there, counted_other_ballot, first_alone, none_alone}

pub none_is : {A : Type 0} (o : Option A) → is_some o ≡ false → o ≡ None
none_is None e = refl
none_is (Some x) e = absurd (let no : true ≡ false = e in cc)

pub is_none : {A : Type 0} (o : Option A) → o ≡ None → is_some o ≡ false
is_none o e = ap is_some e

pub apart_is_false : (a b : ℕ) → b ≢ a → (a == b) ≡ false
apart_is_false a b differs = elim (eqb_tells a b) [
  | inl same ↦ absurd (differs (sym same.1))
  | inr apart ↦ apart.0
]

pub open_where : {A : Type 0} (o : Option A) (r : Bool) → r ≡ is_some o → (IsTrue (not r) ↔ (o ≡ None))
open_where None false e = (λ t. refl, λ n. refl)
open_where None true e = absurd (let no : true ≡ false = e in cc)
open_where (Some x) true e = (λ t. absurd (let no : false ≡ true = t in cc), λ n. absurd (let no : Some x ≡ None = n in cc))
open_where (Some x) false e = absurd (let no : false ≡ true = e in cc)

pub not_both : (r : Bool) → r ≡ true → r ≡ false → ⊥
not_both r t f = let no : true ≡ false = sym t ∙ f in cc

-- ---- whether a majority is counted

pub chosen_where : (h : LearnerState) (n : ℕ) (votes after : NodeSet) (a slot : ℕ) (b : Ballot) (r : Bool) → n ≡ h.members
    → ((m : ℕ) → contains votes m ≡ voted_at h slot b m) → ((m : ℕ) → contains after m ≡ (contains votes m || (a == m)))
    → (IsTrue r ↔ IsMajority n (members_in n after)) → (IsTrue r ↔ IsChosenWith h a slot b)
chosen_where h n votes after a slot b r members now then is =
    let each : (m : ℕ) → m < n → contains after m ≡ (voted_at h slot b m || (a == m)) = λ m lt. then m ∙ ap (λ (x : Bool). x || (a == m)) (now m) in
    let same : members_in n after ≡ tally n (λ m. voted_at h slot b m || (a == m)) = tally_same n (contains after) (λ m. voted_at h slot b m || (a == m)) each in
    subst (λ (k : ℕ). IsTrue r ↔ IsMajority k (tally k (λ m. voted_at h slot b m || (a == m)))) members (subst (λ (k : ℕ). IsTrue r ↔ IsMajority n k) same is)

-- ---- look-ups that answer as before

pub same_by_tallies : (old new : LearnerState) → new.members ≡ old.members → ((s : ℕ) → decided_at new s ≡ decided_at old s)
    → ((s : ℕ) (b : Ballot) → tally_at new s b ≡ tally_at old s b) → IsSame old new
same_by_tallies old new members decided tallies = record {
  members = members;
  decided = decided;
  votes = λ s b m. ap (λ (o : Option Tally). option_map_or (λ t. has_vote t m) o false) (tallies s b);
  firsts = λ s b. ap (λ (o : Option Tally). option_map (λ t. t.value) o) (tallies s b);
}

-- the learned values' entries stay, and the tallies
pub same_entries : (old new : LearnerState) → new.members ≡ old.members → new.learned.entries ≡ old.learned.entries → new.tallies ≡ old.tallies → IsSame old new
same_entries old new members learned tallies =
    same_by_tallies old new members (λ s. ap (lookup (nat_eq s)) learned) (λ s b. ap (λ (m : _). option_and_then (λ t. tally_in t b) (get nat_eq m s)) tallies)

-- one slot's tallies look as before, and all else is
pub same_at_slot : (old new : LearnerState) (slot : ℕ) → new.members ≡ old.members → new.learned ≡ old.learned
    → ((s : ℕ) → s ≢ slot → get nat_eq new.tallies s ≡ get nat_eq old.tallies s) → ((b : Ballot) → tally_at new slot b ≡ tally_at old slot b) → IsSame old new
same_at_slot old new slot members learned others here =
    same_by_tallies old new members (λ s. ap (λ (m : _). get nat_eq m s) learned) tallies
  where
    tallies : (s : ℕ) (b : Ballot) → tally_at new s b ≡ tally_at old s b
    tallies s b = elim (cases_eq s slot) [
      | inl same ↦ subst (λ (k : ℕ). tally_at new k b ≡ tally_at old k b) (sym same) (here b)
      | inr differs ↦ ap (option_and_then (λ t. tally_in t b)) (others s differs)
    ]

-- tallies without an entry look as none
pub empty_here : (o p : Option Tallies) (t : Tallies) (b : Ballot) → o ≡ None → p ≡ Some t → t.entries ≡ [] → option_and_then (λ u. tally_in u b) p ≡ option_and_then (λ u. tally_in u b) o
empty_here o p t b none some empty =
    ap (option_and_then (λ u. tally_in u b)) some ∙ ap (lookup (is_same_ballot b)) empty ∙ sym (ap (option_and_then (λ u. tally_in u b)) none)

-- tallies with the same entries look the same
pub entries_here : (o p : Option Tallies) (t u : Tallies) (b : Ballot) → o ≡ Some t → p ≡ Some u → u.entries ≡ t.entries → option_and_then (λ x. tally_in x b) p ≡ option_and_then (λ x. tally_in x b) o
entries_here o p t u b old new same =
    ap (option_and_then (λ x. tally_in x b)) new ∙ ap (lookup (is_same_ballot b)) same ∙ sym (ap (option_and_then (λ x. tally_in x b)) old)

pub same_twice : (old mid new : LearnerState) → IsSame old mid → IsSame mid new → IsSame old new
same_twice old mid new p q = record {
  members = q.members ∙ p.members;
  decided = λ s. q.decided s ∙ p.decided s;
  votes = λ s b m. q.votes s b m ∙ p.votes s b m;
  firsts = λ s b. q.firsts s b ∙ p.firsts s b;
}

pub puts_after_drops : (old mid new : LearnerState) (slot : ℕ) (value : Value) → Drops old mid slot → Puts mid new slot value → Puts old new slot value
puts_after_drops old mid new slot value drops puts = record {
  members = puts.members ∙ drops.members;
  here = puts.here;
  gone = puts.gone;
  decided = λ s differs. puts.decided s differs ∙ ap (λ (m : _). get nat_eq m s) drops.learned;
  tallies = λ s b differs. puts.tallies s b differs ∙ drops.tallies s b differs;
}

-- the room of the slot's tallies is that of the tallies that were found there
pub room_here : (o : Option Tallies) (t u : Tallies) (b : Ballot) → o ≡ Some t → Some u ≡ o → HasRoomForTally t b → HasRoomForTally u b
room_here o t u b e f room = subst (λ (x : Tallies). HasRoomForTally x b) (is t u (sym e ∙ sym f)) room
  where
    is : (t u : Tallies) → Some t ≡ Some u → t ≡ u
    is t u h = cc

-- ---- a vote is counted

module _ (old new : LearnerState) (a slot : ℕ) (b : Ballot) (v : Value) (was now : Tallies) (members : new.members ≡ old.members) (learned : new.learned ≡ old.learned)
    (before : get nat_eq old.tallies slot ≡ Some was) (after : get nat_eq new.tallies slot ≡ Some now)
    (others : (s : ℕ) → s ≢ slot → get nat_eq new.tallies s ≡ get nat_eq old.tallies s)
    (here : CountsIn (tally_in was b) (tally_in now b) a v) (apart : (c : Ballot) → is_same_ballot b c ≡ false → tally_in now c ≡ tally_in was c) where
  abbrev told : LearnerCall
  told = Accepted a slot b v

  at_old : (c : Ballot) → tally_at old slot c ≡ tally_in was c
  at_old c = ap (option_and_then (λ t. tally_in t c)) before

  at_new : (c : Ballot) → tally_at new slot c ≡ tally_in now c
  at_new c = ap (option_and_then (λ t. tally_in t c)) after

  abbrev vote_in : ℕ → Option Tally → Bool
  vote_in m o = option_map_or (λ t. has_vote t m) o false

  abbrev first_in : Option Tally → Option Value
  first_in o = option_map (λ t. t.value) o

  abbrev Vote : ℕ → Ballot → ℕ → Type 0
  Vote s c m = voted_at new s c m ≡ (voted_at old s c m || is_vote_of m s c told)

  vote_at : (c : Ballot) (m : ℕ) (x : Bool) → is_same_ballot b c ≡ x → Vote slot c m
  vote_at c m true same =
      subst (λ (d : Ballot). Vote slot d m) ((same_ballot_is b c).0 same)
      (ap (vote_in m) (at_new b) ∙ here.votes m ∙ ap (λ (o : Option Tally). vote_in m o || (a == m)) (sym (at_old b)) ∙ ap (λ (x : Bool). voted_at old slot b m || x) (sym (vote_there a slot b v m)))
  vote_at c m false differs =
      ap (vote_in m) (at_new c ∙ apart c differs ∙ sym (at_old c)) ∙ sym (or-false (voted_at old slot c m)) ∙ ap (λ (x : Bool). voted_at old slot c m || x) (sym (vote_other_ballot a slot b v m slot c differs))

  votes : (s : ℕ) (c : Ballot) (m : ℕ) → Vote s c m
  votes s c m = elim (cases_eq s slot) [
    | inl same ↦ subst (λ (k : ℕ). Vote k c m) (sym same) (vote_at c m (is_same_ballot b c) refl)
    | inr differs ↦
        ap (λ (o : _). vote_in m (option_and_then (λ t. tally_in t c) o)) (others s differs) ∙ sym (or-false (voted_at old s c m)) ∙ ap (λ (x : Bool). voted_at old s c m || x) (sym ((other_apart (suc m) s told differs).vote c m (omega arith)))
  ]

  abbrev First : ℕ → Ballot → Type 0
  First s c = first_at new s c ≡ option_or (first_at old s c) (first_counted old.members (told ∷ []) s c)

  first_of : (c : Ballot) (x : Bool) → a < old.members → is_same_ballot b c ≡ x → First slot c
  first_of c true lt same =
      subst (First slot) ((same_ballot_is b c).0 same)
      (ap first_in (at_new b) ∙ here.first ∙ ap (λ (o : Option Tally). option_or (first_in o) (Some v)) (sym (at_old b))
      ∙ ap (option_or (first_at old slot b)) (sym (first_alone old.members slot b told (counted_there a slot b v old.members lt))))
  first_of c false lt differs =
      ap first_in (at_new c ∙ apart c differs ∙ sym (at_old c)) ∙ sym (or_none (first_at old slot c))
      ∙ ap (option_or (first_at old slot c)) (sym (none_alone old.members slot c told (counted_other_ballot a slot b v old.members slot c differs)))

  firsts : (s : ℕ) (c : Ballot) → a < old.members → First s c
  firsts s c lt = elim (cases_eq s slot) [
    | inl same ↦ subst (λ (k : ℕ). First k c) (sym same) (first_of c (is_same_ballot b c) lt refl)
    | inr differs ↦
        ap (λ (o : _). first_in (option_and_then (λ t. tally_in t c) o)) (others s differs) ∙ sym (or_none (first_at old s c))
        ∙ ap (option_or (first_at old s c)) (sym (none_alone old.members s c told ((other_apart old.members s told differs).counted c)))
  ]

  pub counts : Counts old new a slot b v
  counts = record { members = members; decided = λ s. ap (λ (m : _). get nat_eq m s) learned; votes = votes; firsts = firsts }

-- ---- references

-- what a reference or another in its place points to
pub read_or : (o : Option (Bor Value)) (r : Bor Value) → (unwrap_or o r).now ≡ unwrap_or (option_map (λ x. x.now) o) r.now
read_or None r = refl
read_or (Some x) r = refl

-- what was learned goes before what is told
pub learned_is_kept : (old : Option Value) (value : Value) → (old ≡ None → ⊥) → old ≡ option_or old (Some value)
learned_is_kept None value some = absurd (some refl)
learned_is_kept (Some v) value some = refl

-- ---- what a vote makes the slot learn

pub chosen_same : (old new : LearnerState) (a slot : ℕ) (b : Ballot) → IsSame old new → IsChosenWith new a slot b → IsChosenWith old a slot b
chosen_same old new a slot b same chosen =
    subst (λ (k : ℕ). IsMajority k (tally k (λ m. voted_at old slot b m || (a == m)))) same.members
    (majority_same new.members (λ m. voted_at new slot b m || (a == m)) (λ m. voted_at old slot b m || (a == m)) (λ m lt. ap (λ (x : Bool). x || (a == m)) (same.votes slot b m)) chosen)

pub chosen_back : (old new : LearnerState) (a slot : ℕ) (b : Ballot) → IsSame old new → IsChosenWith old a slot b → IsChosenWith new a slot b
chosen_back old new a slot b same chosen =
    subst (λ (k : ℕ). IsMajority k (tally k (λ m. voted_at new slot b m || (a == m)))) (sym same.members)
    (majority_same old.members (λ m. voted_at old slot b m || (a == m)) (λ m. voted_at new slot b m || (a == m)) (λ m lt. ap (λ (x : Bool). x || (a == m)) (sym (same.votes slot b m))) chosen)

pub nothing_now : (old new : LearnerState) (a slot : ℕ) (b : Ballot) (value : Value) (told : Option Value) → decided_at new slot ≡ decided_at old slot
    → (a < old.members → decided_at old slot ≡ None → IsChosenWith old a slot b → ⊥) → LearnsNow old a slot b value told → decided_at new slot ≡ option_or (decided_at old slot) told
nothing_now old new a slot b value None same not learns = same ∙ sym (or_none (decided_at old slot))
nothing_now old new a slot b value (Some v) same not learns = absurd (not learns.0 learns.1 learns.2)

pub something_now : (old new : LearnerState) (a slot : ℕ) (b : Ballot) (value : Value) (told : Option Value) → a < old.members → decided_at old slot ≡ None → IsChosenWith old a slot b
    → decided_at new slot ≡ Some (unwrap_or (first_at old slot b) value) → LearnsNow old a slot b value told → decided_at new slot ≡ option_or (decided_at old slot) told
something_now old new a slot b value None member none chosen is learns = absurd (learns member none chosen)
something_now old new a slot b value (Some v) member none chosen is learns =
    is ∙ ap Some (sym learns.3) ∙ sym (ap (λ (o : Option Value). option_or o (Some v)) none)
