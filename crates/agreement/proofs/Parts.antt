-- How the parts of a node stand after a change, part by part.
use Rattle.std.proofs.Common.{◌≡◌, ◌⊎◌, ◌↔◌, inl, inr, ℕ, zero, suc, ◌<◌, ◌≤◌, Option, None, Some, List, [], ◌∷◌, ◌++◌, Result, Ok, Err, IfOk, OnErr, IsErr, IsSome, refl, sym, ap, subst, ◌∙◌, arith}
use Rattle.std.specs.List.{Contains, filter_map}
use Rattle.std.specs.Option.{option_or}
use Rattle.std.proofs.lemmas.Bool.{cases_eq}
use Rattle.std.proofs.lemmas.List.{append-nil}
use Rattle.std.proofs.lemmas.List.Elements.{filter_map-append, Contains-append_right, Contains-append_cases}
use Rattle.ballots.specs.Ballot.{Ballot}
use Rattle.ballots.specs.Slots.{OthersStay}
use Rattle.ballots.specs.declared.value.Value.{Value}
use Rattle.ballots.specs.declared.record.Record.{Record}
use Rattle.ballots.specs.declared.record.Record.TheVariants as kept_as
use Rattle.acceptor.specs.Restored.{IsHighestRound, round_in}
use Rattle.learner.specs.Calls.{LearnerCall, IsLearned}
use Rattle.learner.specs.State.{LearnerState, decided_at as learned_at}
use Rattle.learner.specs.Changes.{LearnsNow, DecidedNow}
use Rattle.agreement.specs.Step.{IsAnswer}

-- ---- the highest round that was begun

-- one item is among itself
one_in : {X : Type 0} (x : X) → Contains (x ∷ []) x
one_in x = (0, omega arith, refl)

one_alone : {X : Type 0} (x y : X) → Contains (x ∷ []) y → y ≡ x
one_alone x y (zero, within, same) = sym same
one_alone x y (suc k, within, same) = absurd (omega (arith, within))

-- a begin of a higher round is the highest from then on
pub begun_above : (records : List Record) (highest : ℕ) (ballot : Ballot) → IsHighestRound records highest → highest < ballot.round
    → IsHighestRound (records ++ kept_as.Began ballot ∷ []) ballot.round
begun_above records highest ballot is lt =
    let rounds : filter_map round_in (records ++ kept_as.Began ballot ∷ []) ≡ filter_map round_in records ++ ballot.round ∷ [] =
    filter_map-append round_in records (kept_as.Began ballot ∷ []) in
    record {
      begun = inr (subst (λ (l : List ℕ). Contains l ballot.round) (sym rounds) (Contains-append_right (filter_map round_in records) (ballot.round ∷ []) ballot.round (one_in ballot.round)));
      highest = λ other has.
          elim (Contains-append_cases (filter_map round_in records) (ballot.round ∷ []) other (subst (λ (l : List ℕ). Contains l other) rounds has)) as (λ _. other ≤ ballot.round) [
            | inl before ↦ let le : other ≤ highest = is.highest other before in omega (arith, le, lt)
            | inr last ↦ let e : other ≡ ballot.round = one_alone ballot.round other last in omega (arith, e)
          ];
    }

-- a record that is no begin leaves the rounds as they are
no_round : (kept : Record) → IsAnswer kept → filter_map round_in (kept ∷ []) ≡ []
no_round (kept_as.Began ballot) is = absurd is
no_round (kept_as.Promised slot ballot) is = refl
no_round (kept_as.Accepted slot acceptance) is = refl
no_round (kept_as.PromisedFrom first ballot) is = refl

pub answered_round : (records : List Record) (highest : ℕ) (kept : Record) → IsAnswer kept → IsHighestRound records highest
    → IsHighestRound (records ++ kept ∷ []) highest
answered_round records highest kept answer is =
    let rounds : filter_map round_in (records ++ kept ∷ []) ≡ filter_map round_in records =
    filter_map-append round_in records (kept ∷ []) ∙ ap (λ (l : List ℕ). filter_map round_in records ++ l) (no_round kept answer) ∙ append-nil (filter_map round_in records) in
    record {
      begun = elim is.begun as (λ _. (highest ≡ 0) ⊎ Contains (filter_map round_in (records ++ kept ∷ [])) highest) [
        | inl nothing ↦ inl nothing
        | inr has ↦ inr (subst (λ (l : List ℕ). Contains l highest) (sym rounds) has)
      ];
      highest = λ other has. is.highest other (subst (λ (l : List ℕ). Contains l other) rounds has);
    }

-- ---- an answer that is no error

pub begun_ok : {E : Type 0} (result : Result Ballot E) (limit round : ℕ) → (IsErr result ↔ (limit ≤ round)) → round < limit
    → (ballot : Ballot) × (result ≡ Ok ballot)
begun_ok (Ok ballot) limit round iff lt = (ballot, refl)
begun_ok (Err fault) limit round iff lt = let le : limit ≤ round = iff.0 refl in absurd (omega (arith, le, lt))

pub at_ok : {E : Type 0} (P : Ballot → Type 0) (result : Result Ballot E) (ballot : Ballot) → result ≡ Ok ballot → IfOk result P → P ballot
at_ok P result ballot e holds = subst (λ r. IfOk r P) e holds

pub map_ok : {T E : Type 0} (P Q : T → Type 0) (result : Result T E) → ((x : T) → P x → Q x) → IfOk result P → IfOk result Q
map_ok P Q (Ok x) f holds = f x holds
map_ok P Q (Err fault) f holds = tt

pub any_err : {T E : Type 0} (Q : Type 0) (result : Result T E) → Q → OnErr result Q
any_err Q (Ok x) holds = tt
any_err Q (Err fault) holds = holds

-- ---- what is learned and logged

pub nothing_learned : (members : ℕ) (slot : ℕ) (held : Option Value)
    → ((value : Value) → held ≡ Some value → IsLearned members [] slot value) → held ≡ None
nothing_learned members slot None told = refl
nothing_learned members slot (Some value) told =
    let learned = told value refl in absurd (nil_is_short learned.before learned.call learned.after learned.parts)
  where
    nil_is_short : (before : List LearnerCall) (call : LearnerCall) (after : List LearnerCall) → [] ≡ before ++ call ∷ after → ⊥
    nil_is_short [] call after e = absurd cc
    nil_is_short (x ∷ before) call after e = absurd cc

pub learned_when_free : (state : LearnerState) (acceptor slot : ℕ) (ballot : Ballot) (value : Value) (learned : Option Value)
    → LearnsNow state acceptor slot ballot value learned → IsSome learned → learned_at state slot ≡ None
learned_when_free state acceptor slot ballot value None now is = absurd cc
learned_when_free state acceptor slot ballot value (Some v) now is = now.1

pub decided_when_free : (held : Option Value) (value : Value) (learned : Option Value) → DecidedNow held value learned → IsSome learned → held ≡ None
decided_when_free None value learned now is = refl
decided_when_free (Some v) value None now is = absurd cc
decided_when_free (Some v) value (Some w) now is = absurd cc

-- what a decision makes of a slot, in one form
pub decided_here : (held : Option Value) (value : Value) (learned : Option Value) → DecidedNow held value learned
    → option_or held (Some value) ≡ option_or held learned
decided_here None value learned now = sym now
decided_here (Some v) value learned now = refl

-- both have what they had, and this
pub both_have : (log learner log-new learner-new : ℕ → Option Value) (slot : ℕ) (learned : Option Value)
    → ((s : ℕ) → log s ≡ learner s) → log-new slot ≡ option_or (log slot) learned → OthersStay log log-new slot
    → learner-new slot ≡ option_or (learner slot) learned → OthersStay learner learner-new slot
    → (s : ℕ) → log-new s ≡ learner-new s
both_have log learner log-new learner-new slot learned same here others here' others' s =
    elim (cases_eq s slot) as (λ _. log-new s ≡ learner-new s) [
      | inl e ↦ subst (λ (x : ℕ). log-new x ≡ learner-new x) (sym e)
          (here ∙ ap (λ (o : Option Value). option_or o learned) (same slot) ∙ sym here')
      | inr apart ↦ others s apart ∙ same s ∙ sym (others' s apart)
    ]

pub still_beyond : (learner learner-new : ℕ → Option Value) (slot limit : ℕ) → slot < limit → OthersStay learner learner-new slot
    → ((s : ℕ) → limit ≤ s → learner s ≡ None) → (s : ℕ) → limit ≤ s → learner-new s ≡ None
still_beyond learner learner-new slot limit lt others none s le =
    others s (λ e. let x : s ≡ slot = e in absurd (omega (arith, x, lt, le))) ∙ none s le
