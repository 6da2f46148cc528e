-- One record more: what its slot then has is what the records then leave.
use Rattle.std.proofs.Common.{◌≡◌, ◌≢◌, ◌≤◌, ℕ, nat_eq, nat_le, ◌&&◌, leb, true, false, ◌⊎◌, inl, inr, List, [], ◌∷◌, ◌++◌, Bool, if◌then◌else◌, Option, Some, None, refl, sym, ap, subst, ◌∙◌, arith, le-leb, leb-true}
use Rattle.std.specs.Option.{option_map}
use Rattle.std.specs.List.{Contains, filter_map, cons_option}
use Rattle.std.proofs.lemmas.Bool.Decides.{eqb_tells}
use Rattle.std.proofs.lemmas.List.{append_assoc, append-nil}
use Rattle.std.proofs.lemmas.List.Elements.{filter_map-append, Contains-append_left, Contains-append_right, Contains-append_cases}
use Rattle.ballots.specs.Ballot.{Ballot, IsBelow, IsAtLeast}
use Rattle.ballots.specs.Limits.{max_slot}
use Rattle.ballots.specs.declared.acceptance.Acceptance.{Acceptance}
use Rattle.ballots.specs.declared.record.Record.{Record}
use Rattle.ballots.specs.declared.record.Record.TheVariants.{Began, Promised, Accepted, PromisedFrom}
use Rattle.acceptor.specs.Standing.{Standing, IsSame}
use Rattle.acceptor.specs.Ranged.{IsFrom}
use Rattle.acceptor.specs.Raising.{Raises, RaisesFrom, Applies}
use Rattle.acceptor.specs.Restored.{promise_in, acceptance_in, IsHighest, IsLastHighest, IsRestored, round_in, IsHighestRound}
use Rattle.ballots.proofs.CallerLemmas.{below_or_at_least, not_below_itself, not_below_more}
use Rattle.acceptor.proofs.Lists.{nothing_in, one_in, only_one}
use Rattle.acceptor.proofs.Ranging.{from_or_apart}

-- ---- the highest of one ballot more

raised_highest : (ballots : List Ballot) (held b : Ballot) → IsHighest ballots (Some held) → IsAtLeast b (Some held) → IsHighest (ballots ++ b ∷ []) (Some b)
raised_highest ballots held b is more = (
  Contains-append_right ballots (b ∷ []) b (one_in b),
  λ other has. elim (Contains-append_cases ballots (b ∷ []) other has) as (λ _. ¬ IsBelow b other) [
    | inl there ↦ not_below_more held b other more (is.1 other there)
    | inr here ↦ subst (λ (x : Ballot). ¬ IsBelow b x) (sym (only_one b other here)) (not_below_itself b)
  ],
)

kept_highest : (ballots : List Ballot) (held b : Ballot) → IsHighest ballots (Some held) → IsBelow b held → IsHighest (ballots ++ b ∷ []) (Some held)
kept_highest ballots held b is less = (
  Contains-append_left ballots (b ∷ []) held is.0,
  λ other has. elim (Contains-append_cases ballots (b ∷ []) other has) as (λ _. ¬ IsBelow held other) [
    | inl there ↦ is.1 other there
    | inr here ↦ subst (λ (x : Ballot). ¬ IsBelow held x) (sym (only_one b other here)) (not_below_more b held b (inl less) (not_below_itself b))
  ],
)

first_highest : (b : Ballot) → IsHighest (b ∷ []) (Some b)
first_highest b = (one_in b, λ other has. subst (λ (x : Ballot). ¬ IsBelow b x) (sym (only_one b other has)) (not_below_itself b))

highest_of_more : (ballots : List Ballot) (old new : Option Ballot) (b : Ballot) → IsHighest ballots old
    → ((held : Ballot) → old ≡ Some held → IsBelow b held → new ≡ old) → (IsAtLeast b (option_map (λ held. held) old) → new ≡ Some b)
    → IsHighest (ballots ++ b ∷ []) new
highest_of_more ballots None new b is kept raised =
    subst (IsHighest (ballots ++ b ∷ [])) (sym (raised tt)) (subst (λ (l : List Ballot). IsHighest (l ++ b ∷ []) (Some b)) (sym is) (first_highest b))
highest_of_more ballots (Some held) new b is kept raised =
    elim (below_or_at_least b held) as (λ _. IsHighest (ballots ++ b ∷ []) new) [
      | inl less ↦ subst (IsHighest (ballots ++ b ∷ [])) (sym (kept held refl less)) (kept_highest ballots held b is less)
      | inr more ↦ subst (IsHighest (ballots ++ b ∷ [])) (sym (raised more)) (raised_highest ballots held b is more)
    ]

-- ---- the last of the highest acceptances, with one more

none_above : (before after : List Acceptance) (held a other : Acceptance) → ((o : Acceptance) → Contains before o → ¬ IsBelow held.ballot o.ballot)
    → ((o : Acceptance) → Contains after o → IsBelow o.ballot held.ballot) → IsAtLeast a.ballot (Some held.ballot) → Contains (before ++ held ∷ after) other → ¬ IsBelow a.ballot other.ballot
none_above before after held a other not_above below more has =
    not_below_more held.ballot a.ballot other.ballot more (
    elim (Contains-append_cases before (held ∷ after) other has) as (λ _. ¬ IsBelow held.ballot other.ballot) [
      | inl there ↦ not_above other there
      | inr from ↦ elim (Contains-append_cases (held ∷ []) after other from) as (λ _. ¬ IsBelow held.ballot other.ballot) [
        | inl here ↦ subst (λ (x : Acceptance). ¬ IsBelow held.ballot x.ballot) (sym (only_one held other here)) (not_below_itself held.ballot)
        | inr behind ↦ not_below_more other.ballot held.ballot other.ballot (inl (below other behind)) (not_below_itself other.ballot)
      ]
    ])

last_of_more : (list : List Acceptance) (old new : Option Acceptance) (a : Acceptance) → IsLastHighest list old
    → ((held : Acceptance) → old ≡ Some held → IsBelow a.ballot held.ballot → new ≡ old) → (IsAtLeast a.ballot (option_map (λ (held : Acceptance). held.ballot) old) → new ≡ Some a)
    → IsLastHighest (list ++ a ∷ []) new
last_of_more list None new a is kept raised =
    subst (IsLastHighest (list ++ a ∷ [])) (sym (raised tt))
    ([], [], ap (λ (l : List Acceptance). l ++ a ∷ []) is, (λ other has. absurd (nothing_in other has)), (λ other has. absurd (nothing_in other has)))
last_of_more list (Some held) new a (before, after, is, not_above, below) kept raised =
    elim (below_or_at_least a.ballot held.ballot) as (λ _. IsLastHighest (list ++ a ∷ []) new) [
      | inl less ↦ subst (IsLastHighest (list ++ a ∷ [])) (sym (kept held refl less)) (
        before,
        after ++ a ∷ [],
        ap (λ (l : List Acceptance). l ++ a ∷ []) is ∙ append_assoc before (held ∷ after) (a ∷ []),
        not_above,
        (λ other has. elim (Contains-append_cases after (a ∷ []) other has) as (λ _. IsBelow other.ballot held.ballot) [
          | inl there ↦ below other there
          | inr here ↦ subst (λ (x : Acceptance). IsBelow x.ballot held.ballot) (sym (only_one a other here)) less
        ]),
      )
      | inr more ↦ subst (IsLastHighest (list ++ a ∷ [])) (sym (raised more)) (
        list,
        [],
        refl,
        (λ other has. none_above before after held a other not_above below more (subst (λ (l : List Acceptance). Contains l other) is has)),
        (λ other has. absurd (nothing_in other has)),
      )
    ]

-- ---- records

-- a record that gives nothing, or one thing more
nothing_more : {X : Type 0} (h : Record → Option X) (records : List Record) (r : Record) → h r ≡ None → filter_map h (records ++ r ∷ []) ≡ filter_map h records
nothing_more {X} h records r none =
    filter_map-append h records (r ∷ []) ∙ ap (λ (o : Option X). filter_map h records ++ cons_option o []) none ∙ append-nil (filter_map h records)

one_more : {X : Type 0} (h : Record → Option X) (records : List Record) (r : Record) (x : X) → h r ≡ Some x → filter_map h (records ++ r ∷ []) ≡ filter_map h records ++ x ∷ []
one_more {X} h records r x some =
    filter_map-append h records (r ∷ []) ∙ ap (λ (o : Option X). filter_map h records ++ cons_option o []) some

-- what a record gives of its own slot, and of another
given : {X : Type 0} (slot : ℕ) (x : X) → (if nat_eq slot slot then Some x else None) ≡ Some x
given {X} slot x =
    elim (eqb_tells slot slot) [
      | inl same ↦ ap (λ (b : Bool). let o : Option X = if b then Some x else None in o) same.0
      | inr differs ↦ absurd (differs.1 refl)
    ]

skipped : {X : Type 0} (slot other : ℕ) (x : X) → other ≢ slot → (if nat_eq other slot then Some x else None) ≡ None
skipped {X} slot other x apart =
    elim (eqb_tells other slot) [
      | inl same ↦ absurd (apart same.1)
      | inr differs ↦ ap (λ (b : Bool). let o : Option X = if b then Some x else None in o) differs.0
    ]

-- what a record of slots from a first one on gives each of them, and another
given_from : (first slot : ℕ) (ballot : Ballot) → IsFrom first slot → promise_in slot (PromisedFrom first ballot) ≡ Some ballot
given_from first slot ballot from =
    ap (λ (b : Bool). let o : Option Ballot = if b && nat_le slot max_slot then Some ballot else None in o) (le-leb first slot from.0)
    ∙ ap (λ (b : Bool). let o : Option Ballot = if b then Some ballot else None in o) (le-leb slot max_slot from.1)

skipped_from : (first slot : ℕ) (ballot : Ballot) → ¬ IsFrom first slot → promise_in slot (PromisedFrom first ballot) ≡ None
skipped_from first slot ballot apart = by (leb first slot) (leb slot max_slot) refl refl
  where
    by : (b c : Bool) → leb first slot ≡ b → leb slot max_slot ≡ c → (let o : Option Ballot = if b && c then Some ballot else None in o) ≡ None
    by true true from within = absurd (apart (leb-true first slot from, leb-true slot max_slot within))
    by true false from beyond = refl
    by false c below within = refl

module _ (records : List Record) (r : Record) (slot : ℕ) where
  promises_more : (old new : ℕ → Option Ballot) (b : Ballot) → promise_in slot r ≡ Some b → ((s : ℕ) → s ≢ slot → promise_in s r ≡ None)
      → ((s : ℕ) → IsHighest (filter_map (promise_in s) records) (old s)) → Raises (λ held. held) old new slot b
      → (s : ℕ) → IsHighest (filter_map (promise_in s) (records ++ r ∷ [])) (new s)
  promises_more old new b here elsewhere was raises s =
      elim (eqb_tells s slot) as (λ _. IsHighest (filter_map (promise_in s) (records ++ r ∷ [])) (new s)) [
        | inl same ↦ subst (λ (k : ℕ). IsHighest (filter_map (promise_in k) (records ++ r ∷ [])) (new k)) (sym same.1)
            (subst (λ (l : List Ballot). IsHighest l (new slot)) (sym (one_more (promise_in slot) records r b here))
            (highest_of_more (filter_map (promise_in slot) records) (old slot) (new slot) b (was slot) raises.kept raises.raised))
        | inr differs ↦ subst (λ (l : List Ballot). IsHighest l (new s)) (sym (nothing_more (promise_in s) records r (elsewhere s differs.1)))
            (subst (IsHighest (filter_map (promise_in s) records)) (sym (raises.others s differs.1)) (was s))
      ]

  acceptances_more : (old new : ℕ → Option Acceptance) (a : Acceptance) → acceptance_in slot r ≡ Some a → ((s : ℕ) → s ≢ slot → acceptance_in s r ≡ None)
      → ((s : ℕ) → IsLastHighest (filter_map (acceptance_in s) records) (old s)) → Raises (λ (held : Acceptance). held.ballot) old new slot a
      → (s : ℕ) → IsLastHighest (filter_map (acceptance_in s) (records ++ r ∷ [])) (new s)
  acceptances_more old new a here elsewhere was raises s =
      elim (eqb_tells s slot) as (λ _. IsLastHighest (filter_map (acceptance_in s) (records ++ r ∷ [])) (new s)) [
        | inl same ↦ subst (λ (k : ℕ). IsLastHighest (filter_map (acceptance_in k) (records ++ r ∷ [])) (new k)) (sym same.1)
            (subst (λ (l : List Acceptance). IsLastHighest l (new slot)) (sym (one_more (acceptance_in slot) records r a here))
            (last_of_more (filter_map (acceptance_in slot) records) (old slot) (new slot) a (was slot) raises.kept raises.raised))
        | inr differs ↦ subst (λ (l : List Acceptance). IsLastHighest l (new s)) (sym (nothing_more (acceptance_in s) records r (elsewhere s differs.1)))
            (subst (IsLastHighest (filter_map (acceptance_in s) records)) (sym (raises.others s differs.1)) (was s))
      ]

-- ---- one record more of each kind

pub began_more : (records : List Record) (ballot : Ballot) (now : Standing) → IsRestored records now → IsRestored (records ++ Began ballot ∷ []) now
began_more records ballot now is = record {
  promises = λ s. subst (λ (l : List Ballot). IsHighest l (now.promised s)) (sym (nothing_more (promise_in s) records (Began ballot) refl)) (is.promises s);
  acceptances = λ s. subst (λ (l : List Acceptance). IsLastHighest l (now.accepted s)) (sym (nothing_more (acceptance_in s) records (Began ballot) refl)) (is.acceptances s);
}

pub promised_more : (records : List Record) (slot : ℕ) (ballot : Ballot) (old new : Standing) → IsRestored records old
    → Raises (λ held. held) old.promised new.promised slot ballot → ((s : ℕ) → new.accepted s ≡ old.accepted s)
    → IsRestored (records ++ Promised slot ballot ∷ []) new
promised_more records slot ballot old new is raises same =
    let r = Promised slot ballot in
    record {
      promises = promises_more records r slot old.promised new.promised ballot (given slot ballot) (λ s apart. skipped slot s ballot apart) is.promises raises;
      acceptances = λ s. subst (λ (l : List Acceptance). IsLastHighest l (new.accepted s)) (sym (nothing_more (acceptance_in s) records r refl))
          (subst (IsLastHighest (filter_map (acceptance_in s) records)) (sym (same s)) (is.acceptances s));
    }

pub promised_from_more : (records : List Record) (first : ℕ) (ballot : Ballot) (old new : Standing) → IsRestored records old → RaisesFrom old.promised new.promised first ballot
    → ((s : ℕ) → new.accepted s ≡ old.accepted s) → IsRestored (records ++ PromisedFrom first ballot ∷ []) new
promised_from_more records first ballot old new is raises same =
    let r = PromisedFrom first ballot in
    record {
      promises = λ s. elim (from_or_apart first s) as (λ _. IsHighest (filter_map (promise_in s) (records ++ r ∷ [])) (new.promised s)) [
        | inl from ↦ subst (λ (l : List Ballot). IsHighest l (new.promised s)) (sym (one_more (promise_in s) records r ballot (given_from first s ballot from)))
            (highest_of_more (filter_map (promise_in s) records) (old.promised s) (new.promised s) ballot (is.promises s) (λ held. raises.kept s held from)
            (λ more. raises.raised s from (of_option (old.promised s) more)))
        | inr apart ↦ subst (λ (l : List Ballot). IsHighest l (new.promised s)) (sym (nothing_more (promise_in s) records r (skipped_from first s ballot apart)))
            (subst (IsHighest (filter_map (promise_in s) records)) (sym (raises.others s apart)) (is.promises s))
      ];
      acceptances = λ s. subst (λ (l : List Acceptance). IsLastHighest l (new.accepted s)) (sym (nothing_more (acceptance_in s) records r refl))
          (subst (IsLastHighest (filter_map (acceptance_in s) records)) (sym (same s)) (is.acceptances s));
    }
  where
    of_option : (o : Option Ballot) → IsAtLeast ballot (option_map (λ held. held) o) → IsAtLeast ballot o
    of_option None more = tt
    of_option (Some held) more = more

pub accepted_more : (records : List Record) (slot : ℕ) (a : Acceptance) (old new : Standing) → IsRestored records old
    → Raises (λ held. held) old.promised new.promised slot a.ballot → Raises (λ (held : Acceptance). held.ballot) old.accepted new.accepted slot a
    → IsRestored (records ++ Accepted slot a ∷ []) new
accepted_more records slot a old new is raises accepts =
    let r = Accepted slot a in
    record {
      promises = promises_more records r slot old.promised new.promised a.ballot (given slot a.ballot) (λ s apart. skipped slot s a.ballot apart) is.promises raises;
      acceptances = acceptances_more records r slot old.accepted new.accepted a (given slot a) (λ s apart. skipped slot s a apart) is.acceptances accepts;
    }

pub restored_as_before : (records : List Record) (old new : Standing) → IsSame old new → IsRestored records old → IsRestored records new
restored_as_before records old new same is = record {
  promises = λ s. subst (IsHighest (filter_map (promise_in s) records)) (sym (same.promises s)) (is.promises s);
  acceptances = λ s. subst (IsLastHighest (filter_map (acceptance_in s) records)) (sym (same.acceptances s)) (is.acceptances s);
}

-- a record that is applied
pub restored_with : (records : List Record) (old new : Standing) (told : Record) → IsRestored records old → Applies old new told → IsRestored (records ++ told ∷ []) new
restored_with records old new (Began ballot) is same = began_more records ballot new (restored_as_before records old new same is)
restored_with records old new (Promised slot ballot) is (raises, same) = promised_more records slot ballot old new is raises same
restored_with records old new (Accepted slot a) is (raises, accepts) = accepted_more records slot a old new is raises accepts
restored_with records old new (PromisedFrom first ballot) is (raises, same) = promised_from_more records first ballot old new is raises same

-- ---- rounds

pub begun_round_more : (records : List Record) (ballot : Ballot) (highest round : ℕ) → IsHighestRound records highest
    → ((ballot.round ≤ highest) × (round ≡ highest)) ⊎ ((highest ≤ ballot.round) × (round ≡ ballot.round)) → IsHighestRound (records ++ Began ballot ∷ []) round
begun_round_more records ballot highest round is cases =
    let all = filter_map round_in records in
    let more = one_more round_in records (Began ballot) ballot.round refl in
    elim cases as (λ _. IsHighestRound (records ++ Began ballot ∷ []) round) [
      | inl kept ↦ subst (IsHighestRound (records ++ Began ballot ∷ [])) (sym kept.1) (record {
        begun = elim is.begun as (λ _. (highest ≡ 0) ⊎ Contains (filter_map round_in (records ++ Began ballot ∷ [])) highest) [
          | inl none ↦ inl none
          | inr there ↦ inr (subst (λ (l : List ℕ). Contains l highest) (sym more) (Contains-append_left all (ballot.round ∷ []) highest there))
        ];
        highest = λ other has. elim (Contains-append_cases all (ballot.round ∷ []) other (subst (λ (l : List ℕ). Contains l other) more has)) as (λ _. other ≤ highest) [
          | inl there ↦ is.highest other there
          | inr here ↦ subst (λ (k : ℕ). k ≤ highest) (sym (only_one ballot.round other here)) kept.0
        ];
      })
      | inr raised ↦ subst (IsHighestRound (records ++ Began ballot ∷ [])) (sym raised.1) (record {
        begun = inr (subst (λ (l : List ℕ). Contains l ballot.round) (sym more) (Contains-append_right all (ballot.round ∷ []) ballot.round (one_in ballot.round)));
        highest = λ other has. elim (Contains-append_cases all (ballot.round ∷ []) other (subst (λ (l : List ℕ). Contains l other) more has)) as (λ _. other ≤ ballot.round) [
          | inl there ↦ (let old = is.highest other there in let above = raised.0 in omega (arith, old, above))
          | inr here ↦ (let same = only_one ballot.round other here in omega (arith, same))
        ];
      })
    ]

pub other_round_more : (records : List Record) (r : Record) (highest : ℕ) → round_in r ≡ None → IsHighestRound records highest → IsHighestRound (records ++ r ∷ []) highest
other_round_more records r highest none is =
    let same = nothing_more round_in records r none in
    record {
      begun = subst (λ (l : List ℕ). (highest ≡ 0) ⊎ Contains l highest) (sym same) is.begun;
      highest = λ other has. is.highest other (subst (λ (l : List ℕ). Contains l other) same has);
    }
