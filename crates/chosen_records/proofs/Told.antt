-- What is told is what is counted.
use Rattle.std.proofs.Common.{◌≡◌, inl, inr, ◌<◌, ◌≤◌, ◌+◌, ◌++◌, ◌∷◌, [], ℕ, zero, suc, Bool, true, false, cond, IsTrue, List, length, get_or, slice_get, Option, Some, None, refl, sym, ap, subst, ◌∙◌, arith}
use Rattle.std.specs.List.{All, Any, Contains}
use Rattle.std.proofs.lemmas.Bool.{cases_eq}
use Rattle.std.proofs.lemmas.List.{append_assoc}
use Rattle.std.proofs.lemmas.List.Elements.{Contains-append_left, Contains-append_right, Contains-append_cases, Contains-get_or, Contains-push, Contains-push_cases}
use Rattle.std.proofs.lemmas.Map.Entries.{place_from_lookup}
use Rattle.std.proofs.lemmas.Option.{slice_get_within, some_pair_parts}
use Rattle.ballots.specs.Acceptance.{acceptance}
use Rattle.ballots.specs.Ballot.{Ballot}
use Rattle.ballots.specs.Majority.{contains, tally as tally_of, IsMajority, members_in}
use Rattle.ballots.specs.declared.value.Value.{Value}
use Rattle.ballots.specs.declared.record.Record.{Record}
use Rattle.ballots.specs.declared.message.Message.{Message}
use Rattle.ballots.proofs.CallerLemmas.{tally_more, tally_none, tally_same}
use Rattle.chosen_records.specs.declared.tally.SlotBallot.{SlotBallot}
use Rattle.chosen_records.specs.declared.tally.Tally.{Tally}
use Rattle.chosen_records.specs.Chosen.{IsChosenAt, IsRecorded, IsToldChosen, TellsChosen, told_of}
use Rattle.chosen_records.specs.Tallies.{Tallies, place_of, is_same_place, tally_at, IsCounted, HasMajority, IsTallyOf, IsToldOf, TellsUpTo, told_below, told_by}
use Rattle.chosen_records.proofs.Counted.{one_place}

-- ---- the messages of one place

-- where a node is counted, its message is told, and no other
one_there : (b : Bool) (x m : Message) → Contains (cond b (x ∷ []) []) m → IsTrue b × (x ≡ m)
one_there true x m has = elim (Contains-push_cases [] x m has) [
  | inl none ↦ absurd (omega (arith, none.1))
  | inr is ↦ (refl, is)
]
one_there false x m has = absurd (omega (arith, has.1))

one_back : (b : Bool) (x : Message) → IsTrue b → Contains (cond b (x ∷ []) []) x
one_back true x is = Contains-push [] x
one_back false x is = absurd (let no : false ≡ true = is in cc)

module _ (place : SlotBallot) (tally : Tally) where
  abbrev told_here : ℕ → Message
  told_here node = told_of node place.slot (acceptance place.ballot tally.value)

  pub told_next : (xs : List Message) (n : ℕ) → xs ++ told_below n place tally ++ told_by n place tally ≡ xs ++ told_below (n + 1) place tally
  told_next xs n =
      let next : suc n ≡ n + 1 = omega arith in
      append_assoc xs (told_below n place tally) (told_by n place tally) ∙ ap (λ (k : ℕ). xs ++ told_below k place tally) next

  pub below_there : (n : ℕ) (m : Message) → Contains (told_below n place tally) m → (node : ℕ) × IsTrue (contains tally.nodes node) × (told_here node ≡ m)
  below_there zero m has = absurd (omega (arith, has.1))
  below_there (suc n) m has = elim (Contains-append_cases (told_below n place tally) (told_by n place tally) m has) [
    | inl before ↦ below_there n m before
    | inr last ↦
        let here = one_there (contains tally.nodes n) (told_here n) m last in
        (n, here.0, here.1)
  ]

  below_back : (n node : ℕ) → node < n → IsTrue (contains tally.nodes node) → Contains (told_below n place tally) (told_here node)
  below_back zero node lt is = absurd (omega (arith, lt))
  below_back (suc n) node lt is = elim (cases_eq node n) [
    | inl same ↦
        Contains-append_right (told_below n place tally) (told_by n place tally) (told_here node)
        (subst (λ (k : ℕ). Contains (told_by k place tally) (told_here node)) same (one_back (contains tally.nodes node) (told_here node) is))
    | inr differs ↦ Contains-append_left (told_below n place tally) (told_by n place tally) (told_here node) (below_back n node (omega (arith, lt, differs)) is)
  ]

-- ---- told up to a place

told_still : (members : ℕ) (told more : List Message) (slot : ℕ) → IsToldChosen members told slot → IsToldChosen members (told ++ more) slot
told_still members told more slot is = (
  is.0,
  is.1,
  record {
    is_in = is.2.is_in;
    majority = is.2.majority;
    each = λ node lt in'. Contains-append_left told more _ (is.2.each node lt in');
  },
)

module _ (members : ℕ) (tallies : Tallies) (index : ℕ) (told : List Message) (is : TellsUpTo members tallies index told) (place : SlotBallot) (tally : Tally)
    (here : slice_get tallies.entries index ≡ Some (place, tally)) where
  abbrev Chosen : List Message → ℕ → Type 0
  Chosen now i = (p : SlotBallot) (t : Tally) → slice_get tallies.entries i ≡ Some (p, t) → IsMajority members (members_in members t.nodes) → IsToldChosen members now p.slot

  -- what is told of a slot at this place, where its tally is a majority
  chosen_here : (now : List Message) → (IsMajority members (members_in members tally.nodes) → IsToldChosen members now place.slot) → Chosen now index
  chosen_here now is_told p t there majority =
      let same = some_pair_parts place p tally t (sym here ∙ there) in
      subst (λ (q : SlotBallot). IsToldChosen members now q.slot) same.0
      (is_told (subst (λ (u : Tally). IsMajority members (members_in members u.nodes)) (sym same.1) majority))

  chosen_next : (now : List Message) → ((i : ℕ) → i < index → Chosen now i) → Chosen now index → (i : ℕ) → i < index + 1 → Chosen now i
  chosen_next now before last i lt = elim (cases_eq i index) as (λ _. Chosen now i) [
    | inl same ↦ subst (Chosen now) (sym same) last
    | inr differs ↦ before i (omega (arith, lt, differs))
  ]

  -- nothing is to be told
  pub told_over : (IsMajority members (members_in members tally.nodes) → IsToldChosen members told place.slot) → TellsUpTo members tallies (index + 1) told
  told_over is_told = record {
    counted = is.counted;
    whole = is.whole;
    chosen = λ i p t lt at. chosen_next told (λ i lt p t. is.chosen i p t lt) (chosen_here told is_told) i lt p t at;
  }

  -- the slot is told already
  pub told_already : Any (λ m. m.slot ≡ place.slot) told → TellsUpTo members tallies (index + 1) told
  told_already (k, m, lt, at, same) =
      told_over (λ _. subst (IsToldChosen members told) same (is.whole m (k, lt, at)))

  -- the place is told
  module _ (found : tally_at tallies place ≡ Some tally) (majority : IsMajority members (members_in members tally.nodes)) where
    abbrev now : List Message
    now = told ++ told_below members place tally

    chosen_now : IsToldChosen members now place.slot
    chosen_now = (
      place.ballot,
      tally.value,
      record {
        is_in = contains tally.nodes;
        majority = majority;
        each = λ node lt in'. Contains-append_right told (told_below members place tally) _ (below_back place tally members node lt in');
      },
    )

    counted_here : (node : ℕ) → IsTrue (contains tally.nodes node) → IsToldOf members tallies (told_here place tally node)
    counted_here node in' = (
      place.ballot,
      tally.value,
      refl,
      subst (λ (t : Option Tally). IsCounted t node tally.value) (sym found) (in', refl),
      subst (HasMajority members) (sym found) majority,
    )

    counted_now : (m : Message) → Contains now m → IsToldOf members tallies m
    counted_now m has = elim (Contains-append_cases told (told_below members place tally) m has) [
      | inl before ↦ is.counted m before
      | inr last ↦
          let it = below_there place tally members m last in
          subst (IsToldOf members tallies) it.2 (counted_here it.0 it.1)
    ]

    whole_now : (m : Message) → Contains now m → IsToldChosen members now m.slot
    whole_now m has = elim (Contains-append_cases told (told_below members place tally) m has) [
      | inl before ↦ told_still members told (told_below members place tally) m.slot (is.whole m before)
      | inr last ↦
          let it = below_there place tally members m last in
          subst (λ (x : Message). IsToldChosen members now x.slot) it.2 chosen_now
    ]

    pub told_place : TellsUpTo members tallies (index + 1) now
    told_place = record {
      counted = counted_now;
      whole = whole_now;
      chosen = λ i p t lt at.
          chosen_next now (λ i lt p t at majority. told_still members told (told_below members place tally) p.slot (is.chosen i p t lt at majority))
          (chosen_here now (λ _. chosen_now)) i lt p t at;
    }

-- ---- told of all places

module _ (members : ℕ) (tallies : Tallies) (told : List Message) (is : TellsUpTo members tallies (length tallies.entries) told) (all : List (List Record)) (counts : IsTallyOf all tallies) where
  pub recorded_all : All (IsRecorded all) told
  recorded_all k d lt =
      let m : Message = get_or told k d in
      let it : IsToldOf members tallies m = is.counted m (Contains-get_or told k d lt) in
      (acceptance it.0 it.1, it.2, (counts.counts m.sender m.slot it.0 it.1).1 it.3)

  chosen_by : (slot : ℕ) (ballot : Ballot) (value : Value) (node : ℕ) (t : Option Tally) → tally_at tallies (place_of slot ballot) ≡ t → IsCounted t node value → HasMajority members t
      → IsChosenAt members all slot ballot value
  chosen_by slot ballot value node None e counted majority = absurd counted
  chosen_by slot ballot value node (Some tally) e counted majority = record {
    is_in = contains tally.nodes;
    majority = majority;
    each = λ other lt in'. (counts.counts other slot ballot value).1 (subst (λ (t : Option Tally). IsCounted t other value) (sym e) (in', counted.1));
  }

  pub only_chosen : All (TellsChosen members all) told
  only_chosen k d lt =
      let m : Message = get_or told k d in
      let it : IsToldOf members tallies m = is.counted m (Contains-get_or told k d lt) in
      (it.0, it.1, it.2, chosen_by m.slot it.0 it.1 m.sender (tally_at tallies (place_of m.slot it.0)) refl it.3 it.4)

  -- a majority that is counted stands in the tallies
  told_at : (slot : ℕ) (ballot : Ballot) (t : Option Tally) → tally_at tallies (place_of slot ballot) ≡ t → (is_in : ℕ → Bool) → IsMajority members (tally_of members is_in)
      → ((node : ℕ) → node < members → is_in node ≡ true → (value : Value) × IsCounted t node value) → IsToldChosen members told slot
  told_at slot ballot None e is_in majority each =
      let none : tally_of members is_in ≡ 0 = tally_same members is_in (λ node. false) (λ node lt. not_in node lt (is_in node) refl) ∙ tally_none members in
      absurd (omega (arith, majority, none))
    where
      not_in : (node : ℕ) → node < members → (b : Bool) → is_in node ≡ b → is_in node ≡ false
      not_in node lt true e = absurd ((each node lt e).1)
      not_in node lt false e = e
  told_at slot ballot (Some tally) e is_in majority each =
      let more : tally_of members is_in ≤ members_in members tally.nodes = tally_more members is_in (contains tally.nodes) (λ node lt in'. (each node lt in').1.0) in
      let at = place_from_lookup (is_same_place (place_of slot ballot)) tallies.entries tally e in
      let same : place_of slot ballot ≡ at.1 = one_place (place_of slot ballot) at.1 at.3 in
      let found : slice_get tallies.entries at.0 ≡ Some (place_of slot ballot, tally) = subst (λ (p : SlotBallot). slice_get tallies.entries at.0 ≡ Some (p, tally)) (sym same) at.2 in
      is.chosen at.0 (place_of slot ballot) tally (slice_get_within tallies.entries at.0 _ found) found (omega (arith, majority, more))

  pub chosen_all : (slot : ℕ) (ballot : Ballot) (value : Value) → IsChosenAt members all slot ballot value → IsToldChosen members told slot
  chosen_all slot ballot value chosen =
      told_at slot ballot (tally_at tallies (place_of slot ballot)) refl chosen.is_in chosen.majority
      (λ node lt in'. (value, (counts.counts node slot ballot value).0 (chosen.each node lt in')))
