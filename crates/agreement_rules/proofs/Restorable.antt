-- Records leave a standing and a highest round, whatever they are.
use Rattle.std.proofs.Common.{◌≡◌, ℕ, ◌≤◌, ◌⊎◌, inl, inr, Bool, cond, nat_eq, List, [], ◌∷◌, ◌++◌, filter_map, Option, Some, None, refl, sym, ap, subst, ◌∙◌, eq-eqb, ne_eqb, arith}
use Rattle.std.specs.List.{Contains}
use Rattle.std.specs.Option.{option_map}
use Rattle.std.proofs.lemmas.Bool.{cases_lt}
use Rattle.std.proofs.lemmas.List.{append-nil, append_assoc}
use Rattle.ballots.specs.Ballot.{Ballot, IsBelow, IsAtLeast}
use Rattle.ballots.specs.Limits.{max_slot}
use Rattle.ballots.specs.declared.record.Record.{Record}
use Rattle.ballots.specs.declared.record.Record.TheVariants.{Began, Promised, Accepted, PromisedFrom}
use Rattle.ballots.proofs.CallerLemmas.{at_least_where_not_below, below_or_at_least}
use Rattle.acceptor.specs.Standing.{Standing, IsFresh}
use Rattle.acceptor.specs.Ranged.{IsFrom}
use Rattle.acceptor.specs.Raising.{Raises, RaisesFrom, Applies}
use Rattle.acceptor.specs.Restored.{IsRestored, IsHighestRound, round_in}
use Rattle.agreement_rules.proofs.Lists.{nothing_in, in_front, behind_front, first_or_rest}

-- ---- a slot that is set

abbrev pub put_at : {X : Type 0} → (ℕ → Option X) → ℕ → X → ℕ → Option X
put_at old slot x s = cond (nat_eq s slot) (Some x) (old s)

pub put_here : {X : Type 0} (old : ℕ → Option X) (slot : ℕ) (x : X) → put_at old slot x slot ≡ Some x
put_here old slot x = ap (λ (b : Bool). cond b (Some x) (old slot)) (eq-eqb slot slot refl)

pub put_others : {X : Type 0} (old : ℕ → Option X) (slot : ℕ) (x : X) (s : ℕ) → (s ≡ slot → ⊥) → put_at old slot x s ≡ old s
put_others old slot x s apart = ap (λ (b : Bool). cond b (Some x) (old s)) (ne_eqb s slot apart)

-- ---- one record more

module _ {X : Type 0} (ballot_of : X → Ballot) (old : ℕ → Option X) (slot : ℕ) (entry : X) where
  raise_by : (o : Option X) → old slot ≡ o → (new : ℕ → Option X) × Raises ballot_of old new slot entry
  raise_by None none = (
    put_at old slot entry,
    record {
      kept = λ held has below. absurd (let no : None ≡ Some held = sym none ∙ has in cc);
      raised = λ at_least. put_here old slot entry;
      others = put_others old slot entry;
    },
  )
  raise_by (Some held) some = elim (below_or_at_least (ballot_of entry) (ballot_of held)) as (λ _. (new : ℕ → Option X) × Raises ballot_of old new slot entry) [
    | inl below ↦ (
      old,
      record {
        kept = λ other has lower. refl;
        raised = λ at_least.
            absurd ((at_least_where_not_below (ballot_of held) (ballot_of entry)).0
            (subst (λ (o : Option X). IsAtLeast (ballot_of entry) (option_map ballot_of o)) some at_least) below);
        others = λ other apart. refl;
      },
    )
    | inr at_least ↦ (
      put_at old slot entry,
      record {
        kept = λ other has lower.
            let same : Some held ≡ Some other = sym some ∙ has in
            let one : other ≡ held = cc in
            absurd ((at_least_where_not_below (ballot_of held) (ballot_of entry)).0 at_least (subst (λ (x : X). IsBelow (ballot_of entry) (ballot_of x)) one lower));
        raised = λ again. put_here old slot entry;
        others = put_others old slot entry;
      },
    )
  ]

  raise : (new : ℕ → Option X) × Raises ballot_of old new slot entry
  raise = raise_by (old slot) refl

-- what a slot from a first one on has promised where all of them promise a ballot: the higher of both
module _ (old : ℕ → Option Ballot) (first : ℕ) (ballot : Ballot) where
  record RaisedAt (slot : ℕ) : Type 0 where
    promise : Option Ballot
    kept : (held : Ballot) → IsFrom first slot → old slot ≡ Some held → IsBelow ballot held → promise ≡ old slot
    raised : IsFrom first slot → IsAtLeast ballot (old slot) → promise ≡ Some ballot
    others : (IsFrom first slot → ⊥) → promise ≡ old slot

  raised_of : (slot : ℕ) (o : Option Ballot) → old slot ≡ o → IsFrom first slot → RaisedAt slot
  raised_of slot None none from = record {
    promise = Some ballot;
    kept = λ held _ has below. absurd (let no : None ≡ Some held = sym none ∙ has in cc);
    raised = λ _ at_least. refl;
    others = λ apart. absurd (apart from);
  }
  raised_of slot (Some held) some from = elim (below_or_at_least ballot held) as (λ _. RaisedAt slot) [
    | inl below ↦ record {
      promise = old slot;
      kept = λ other _ has lower. refl;
      raised = λ _ at_least. absurd ((at_least_where_not_below held ballot).0 (subst (IsAtLeast ballot) some at_least) below);
      others = λ apart. refl;
    }
    | inr at_least ↦ record {
      promise = Some ballot;
      kept = λ other _ has lower.
          let same : Some held ≡ Some other = sym some ∙ has in
          let one : other ≡ held = cc in
          absurd ((at_least_where_not_below held ballot).0 at_least (subst (IsBelow ballot) one lower));
      raised = λ _ again. refl;
      others = λ apart. absurd (apart from);
    }
  ]

  apart_at : (slot : ℕ) → (IsFrom first slot → ⊥) → RaisedAt slot
  apart_at slot apart = record {
    promise = old slot;
    kept = λ held from has below. absurd (apart from);
    raised = λ from at_least. absurd (apart from);
    others = λ _. refl;
  }

  raised_at : (slot : ℕ) → RaisedAt slot
  raised_at slot = elim (cases_lt slot first) as (λ _. RaisedAt slot) [
    | inl below ↦ apart_at slot (λ from. let le = from.0 in omega (arith, below, le))
    | inr above ↦ elim (cases_lt max_slot slot) as (λ _. RaisedAt slot) [
      | inl beyond ↦ apart_at slot (λ from. let le = from.1 in omega (arith, beyond, le))
      | inr within ↦ raised_of slot (old slot) refl (above, within)
    ]
  ]

  raise_from : (new : ℕ → Option Ballot) × RaisesFrom old new first ballot
  raise_from = (
    λ slot. (raised_at slot).promise,
    record {
      kept = λ slot held from has below. (raised_at slot).kept held from has below;
      raised = λ slot from at_least. (raised_at slot).raised from at_least;
      others = λ slot apart. (raised_at slot).others apart;
    },
  )

applies : (old : Standing) (r : Record) → (new : Standing) × Applies old new r
applies old (Began ballot) = (old, record { promises = λ s. refl; acceptances = λ s. refl })
applies old (Promised slot ballot) =
    let promised = raise (λ held. held) old.promised slot ballot in
    (record { promised = promised.0; accepted = old.accepted }, (promised.1, λ s. refl))
applies old (Accepted slot acceptance) =
    let promised = raise (λ held. held) old.promised slot acceptance.ballot in
    let accepted = raise (λ held. held.ballot) old.accepted slot acceptance in
    (record { promised = promised.0; accepted = accepted.0 }, (promised.1, accepted.1))
applies old (PromisedFrom first ballot) =
    let promised = raise_from old.promised first ballot in
    (record { promised = promised.0; accepted = old.accepted }, (promised.1, λ s. refl))

-- ---- all of them

-- the acceptor's laws that are used
abbrev pub FreshLaw : Type 0
FreshLaw = (now : Standing) → IsFresh now → IsRestored [] now

abbrev pub AppliedLaw : Type 0
AppliedLaw = (records : List Record) (old new : Standing) (told : Record) → IsRestored records old → Applies old new told → IsRestored (records ++ told ∷ []) new

restores_on : AppliedLaw → (done rest : List Record) (old : Standing) → IsRestored done old → (now : Standing) × IsRestored (done ++ rest) now
restores_on law done [] old is = (old, subst (λ (l : List Record). IsRestored l old) (sym (append-nil done)) is)
restores_on law done (r ∷ rest) old is =
    let next = applies old r in
    let last = restores_on law (done ++ r ∷ []) rest next.0 (law done old next.0 r is next.1) in
    (last.0, subst (λ (l : List Record). IsRestored l last.0) (append_assoc done (r ∷ []) rest) last.1)

pub restores : FreshLaw → AppliedLaw → (records : List Record) → (now : Standing) × IsRestored records now
restores fresh applied records =
    let start : Standing = record { promised = λ s. None; accepted = λ s. None } in
    restores_on applied [] records start (fresh start (record { promises = λ s. refl; acceptances = λ s. refl }))

-- ---- the highest round

-- the greatest of these numbers, 0 where there are none
pub record Greatest (numbers : List ℕ) : Type 0 where
  pub most : ℕ
  pub is_in : (most ≡ 0) ⊎ Contains numbers most
  pub above : (other : ℕ) → Contains numbers other → other ≤ most

pub greatest : (numbers : List ℕ) → Greatest numbers
greatest [] = record { most = 0; is_in = inl refl; above = λ other has. absurd (nothing_in other has) }
greatest (n ∷ numbers) =
    let rest = greatest numbers in
    elim (cases_lt rest.most n) as (λ _. Greatest (n ∷ numbers)) [
      | inl more ↦ record {
        most = n;
        is_in = inr (in_front n numbers);
        above = λ other has. elim (first_or_rest n other numbers has) as (λ _. other ≤ n) [
          | inl same ↦ omega (arith, same)
          | inr there ↦ (let le : other ≤ rest.most = rest.above other there in omega (arith, le, more))
        ];
      }
      | inr no_more ↦ record {
        most = rest.most;
        is_in = elim rest.is_in as (λ _. (rest.most ≡ 0) ⊎ Contains (n ∷ numbers) rest.most) [
          | inl none ↦ inl none
          | inr there ↦ inr (behind_front n rest.most numbers there)
        ];
        above = λ other has. elim (first_or_rest n other numbers has) as (λ _. other ≤ rest.most) [
          | inl same ↦ omega (arith, same, no_more)
          | inr there ↦ rest.above other there
        ];
      }
    ]

pub highest_round : (records : List Record) → (round : ℕ) × IsHighestRound records round
highest_round records =
    let found = greatest (filter_map round_in records) in
    (found.most, record { begun = found.is_in; highest = found.above })
