-- What is counted of one more promise.
use Rattle.std.proofs.Common.{inl, inr, ◌≡◌, ◌≢◌, ℕ, ◌<◌, ◌==◌, ◌||◌, Bool, true, false, not, List, [], ◌∷◌, ◌++◌, filter, Option, Some, None, refl, sym, ap, subst, ◌∙◌, arith, option_to_list, append-nil, eq-eqb, ne_eqb}
use Rattle.std.specs.List.{cons_option}
use Rattle.std.proofs.lemmas.Bool.{cases_eq}
use Rattle.std.proofs.lemmas.Grind.{common_steps}
use Rattle.std.proofs.lemmas.List.Folds.{list_any-append}
use Rattle.std.proofs.lemmas.List.Elements.{filter-append, filter_map-append}
use Rattle.ballots.specs.declared.value.Value.{Value}
use Rattle.ballots.specs.Majority.{NodeSet, contains, members_in, IsMajority}
use Rattle.ballots.proofs.CallerLemmas.{majority_stays, majority_same, none_is_no_majority}
use Rattle.proposer.specs.declared.attempt.Attempt.{Attempt}
use Rattle.proposer.specs.declared.choice.Choice.{Choice}
use Rattle.proposer.specs.Call.{Promise}
use Rattle.proposer.specs.Choosing.{is_from, is_sender, HasMajority, first_of_each, reports_of, Chooses}
use Rattle.proposer.specs.Counting.{IsBest, ChoiceAfter, Counts, AnswersAtMajority, IsNew}

-- ---- senders

pub is_sender-push : (promises : List Promise) (promise : Promise) (node : ℕ) → is_sender (promises ++ promise ∷ []) node ≡ (is_sender promises node || is_from node promise)
is_sender-push [] promise node = elim (is_from node promise) as (λ b. (b || false) ≡ (false || b)) [ true ↦ refl | false ↦ refl ]
is_sender-push (first ∷ promises) promise node = grind (arith, common_steps, is_sender-push promises promise node)

-- who sent one of some promises sent one of more
pub still_sender : (promises more : List Promise) (node : ℕ) → is_sender promises node ≡ true → is_sender (promises ++ more) node ≡ true
still_sender promises more node is = rw (list_any-append (is_from node) promises more, is)

pub majority_grows : (members : ℕ) (promises more : List Promise) → HasMajority members promises → HasMajority members (promises ++ more)
majority_grows members promises more majority = majority_stays members (is_sender promises) (is_sender (promises ++ more)) (λ node lt. still_sender promises more node) majority

-- ---- each sender's first

abbrev pub other_than : Promise → Promise → Bool
other_than first other = not (is_from first.sender other)

-- one more of the first's own is none of the others'
drops_own : (promises : List Promise) (first promise : Promise) → promise.sender ≡ first.sender → filter (other_than first) (promises ++ promise ∷ []) ≡ filter (other_than first) promises
drops_own promises first promise own = rw (filter-append (other_than first) promises (promise ∷ []), eq-eqb promise.sender first.sender own, append-nil)

keeps_other : (promises : List Promise) (first promise : Promise) → promise.sender ≢ first.sender → filter (other_than first) (promises ++ promise ∷ []) ≡ filter (other_than first) promises ++ promise ∷ []
keeps_other promises first promise differs = rw (filter-append (other_than first) promises (promise ∷ []), ne_eqb promise.sender first.sender differs)

-- a promise of a sender who has sent one before is not counted, and one of another sender is
pub data Pushed (promises : List Promise) (promise : Promise) : Type 0 where
  again : is_sender promises promise.sender ≡ true → first_of_each (promises ++ promise ∷ []) ≡ first_of_each promises → Pushed promises promise
  new : is_sender promises promise.sender ≡ false → first_of_each (promises ++ promise ∷ []) ≡ first_of_each promises ++ promise ∷ [] → Pushed promises promise

or_true : (b : Bool) → (b || true) ≡ true
or_true true = refl
or_true false = refl

or_false : (b : Bool) → (b || false) ≡ b
or_false true = refl
or_false false = refl

one_more : (first : Promise) (promises : List Promise) (promise : Promise) → Pushed promises promise → Pushed (first ∷ promises) promise
one_more first promises promise (again is e) =
    again (rw is (or_true (is_from promise.sender first))) (rw e refl)
one_more first promises promise (new is e) = elim (cases_eq promise.sender first.sender) as (λ _. Pushed (first ∷ promises) promise) [
  | inl own ↦ again (rw (eq-eqb first.sender promise.sender (sym own)) refl) (rw (e, drops_own (first_of_each promises) first promise own) refl)
  | inr differs ↦ new (rw (is, ne_eqb first.sender promise.sender (λ own. differs (sym own))) refl) (rw (e, keeps_other (first_of_each promises) first promise differs) refl)
]

pub pushed : (promises : List Promise) (promise : Promise) → Pushed promises promise
pushed [] promise = new refl refl
pushed (first ∷ promises) promise = one_more first promises promise (pushed promises promise)

pub first_of_each-again : (promises : List Promise) (promise : Promise) → is_sender promises promise.sender ≡ true → first_of_each (promises ++ promise ∷ []) ≡ first_of_each promises
first_of_each-again promises promise is = elim (pushed promises promise) as (λ _. first_of_each (promises ++ promise ∷ []) ≡ first_of_each promises) [
  | again is_again e ↦ e
  | new is_new e ↦ absurd (let no : true ≡ false = sym is ∙ is_new in cc)
]

pub first_of_each-new : (promises : List Promise) (promise : Promise) → is_sender promises promise.sender ≡ false → first_of_each (promises ++ promise ∷ []) ≡ first_of_each promises ++ promise ∷ []
first_of_each-new promises promise is = elim (pushed promises promise) as (λ _. first_of_each (promises ++ promise ∷ []) ≡ first_of_each promises ++ promise ∷ []) [
  | again is_again e ↦ absurd (let no : true ≡ false = sym is_again ∙ is in cc)
  | new is_new e ↦ e
]

-- what it reports comes last
reports_of_one : (promise : Promise) → reports_of (promise ∷ []) ≡ option_to_list promise.report
reports_of_one promise = elim promise.report as (λ r. cons_option r [] ≡ option_to_list r) [ None ↦ refl | Some report ↦ refl ]

pub reports-new : (promises : List Promise) (promise : Promise) → is_sender promises promise.sender ≡ false → reports_of (first_of_each (promises ++ promise ∷ [])) ≡ reports_of (first_of_each promises) ++ option_to_list promise.report
reports-new promises promise is =
    rw (first_of_each-new promises promise is, filter_map-append (λ (p : Promise). p.report) (first_of_each promises) (promise ∷ []), reports_of_one promise) refl

-- ---- an attempt

-- nothing is counted at the begin
pub counts_nothing : (members : ℕ) (candidate : Value) (first : Choice) (attempt : Attempt) → ((node : ℕ) → contains attempt.counted node ≡ false) → attempt.choice ≡ Some first
    → IsBest candidate [] first.reported_at first.value → Counts members candidate [] attempt
counts_nothing members candidate first attempt empty is is_best = record {
  senders = λ node lt. empty node;
  choice = rw is (none_is_no_majority members, is_best);
}

module _ (members : ℕ) (candidate : Value) (promises : List Promise) (promise : Promise) (attempt : Attempt)
    (was : Counts members candidate promises attempt) (is_new : IsNew members promise.sender attempt) where
  not_sent : is_sender promises promise.sender ≡ false
  not_sent = sym (was.senders promise.sender is_new.member) ∙ is_new.not_counted

  -- the report comes after those that are counted
  pub reports_with : reports_of (first_of_each (promises ++ promise ∷ [])) ≡ reports_of (first_of_each promises) ++ option_to_list promise.report
  reports_with = reports-new promises promise not_sent

-- ---- a promise of a sender who is counted

module _ (members : ℕ) (candidate : Value) (promises : List Promise) (promise : Promise) (sent : is_sender promises promise.sender ≡ true) where
  senders_again : (node : ℕ) → is_sender (promises ++ promise ∷ []) node ≡ is_sender promises node
  senders_again node = elim (cases_eq promise.sender node) as (λ _. is_sender (promises ++ promise ∷ []) node ≡ is_sender promises node) [
    | inl own ↦ rw (is_sender-push promises promise node, ← own, sent) refl
    | inr differs ↦ rw (is_sender-push promises promise node, ne_eqb promise.sender node differs) (or_false (is_sender promises node))
  ]

  pub majority_again : HasMajority members (promises ++ promise ∷ []) → HasMajority members promises
  majority_again = majority_same members (is_sender (promises ++ promise ∷ [])) (is_sender promises) (λ node lt. senders_again node)

  keeps_again : (choice : Option Choice) → ChoiceAfter members candidate promises choice → ChoiceAfter members candidate (promises ++ promise ∷ []) choice
  keeps_again None kept = majority_grows members promises (promise ∷ []) kept
  keeps_again (Some choice) kept =
      (λ majority. kept.0 (majority_again majority), rw (first_of_each-again promises promise sent) kept.1)

  pub counts_again : (attempt : Attempt) → Counts members candidate promises attempt → Counts members candidate (promises ++ promise ∷ []) attempt
  counts_again attempt was = record {
    senders = λ node lt. was.senders node lt ∙ sym (senders_again node);
    choice = keeps_again attempt.choice was.choice;
  }

-- ---- one more promise, by what the code has in hand

module _ (members : ℕ) (candidate : Value) (promises : List Promise) (promise : Promise) (attempt : Attempt) (sender : ℕ) (next : NodeSet)
    (by_sender : promise.sender ≡ sender) (with_sender : (node : ℕ) → contains next node ≡ (contains attempt.counted node || (sender == node)))
    (requires : IsNew members sender attempt) (was : Counts members candidate promises attempt) where
  by_new : IsNew members promise.sender attempt
  by_new = subst (λ (s : ℕ). IsNew members s attempt) (sym by_sender) requires

  -- the senders are counted with this one
  senders_after : (node : ℕ) → node < members → contains next node ≡ is_sender (promises ++ promise ∷ []) node
  senders_after node lt =
      with_sender node ∙ ap (λ (b : Bool). b || (sender == node)) (was.senders node lt)
      ∙ ap (λ (s : ℕ). is_sender promises node || (s == node)) (sym by_sender) ∙ sym (is_sender-push promises promise node)

  majority_after : IsMajority members (members_in members next) → HasMajority members (promises ++ promise ∷ [])
  majority_after = majority_same members (contains next) (is_sender (promises ++ promise ∷ [])) senders_after

  after_majority : HasMajority members (promises ++ promise ∷ []) → IsMajority members (members_in members next)
  after_majority = majority_same members (is_sender (promises ++ promise ∷ [])) (contains next) (λ node lt. sym (senders_after node lt))

  -- the Accept was answered before
  kept_none : attempt.choice ≡ None → HasMajority members promises
  kept_none none = subst (λ (o : Option Choice). ChoiceAfter members candidate promises o) none was.choice

  pub counts_gone : (choice : Option Choice) → attempt.choice ≡ None → choice ≡ None → Counts members candidate (promises ++ promise ∷ []) (record attempt { counted = next; choice = choice })
  counts_gone choice none none_now = record {
    senders = senders_after;
    choice = rw none_now (majority_grows members promises (promise ∷ []) (kept_none none));
  }

  kept_some : (old : Choice) → attempt.choice ≡ Some old → ChoiceAfter members candidate promises (Some old)
  kept_some old was_old = subst (λ (o : Option Choice). ChoiceAfter members candidate promises o) was_old was.choice

  module _ (old new : Choice) (was_old : attempt.choice ≡ Some old)
      (weighs : IsBest candidate (reports_of (first_of_each promises)) old.reported_at old.value → IsBest candidate (reports_of (first_of_each promises) ++ option_to_list promise.report) new.reported_at new.value) where
    best_now : IsBest candidate (reports_of (first_of_each (promises ++ promise ∷ []))) new.reported_at new.value
    best_now = rw (reports_with members candidate promises promise attempt was by_new) (weighs (kept_some old was_old).1)

    -- the majority comes with this promise
    pub counts_majority : (choice : Option Choice) → choice ≡ None → IsMajority members (members_in members next) → Counts members candidate (promises ++ promise ∷ []) (record attempt { counted = next; choice = choice })
    counts_majority choice none_now majority = record { senders = senders_after; choice = rw none_now (majority_after majority) }

    -- there is no majority yet
    pub counts_on : (IsMajority members (members_in members next) → ⊥) → Counts members candidate (promises ++ promise ∷ []) (record attempt { counted = next; choice = Some new })
    counts_on not = record { senders = senders_after; choice = (λ majority. not (after_majority majority), best_now) }

  pub gives_none_yet : (IsMajority members (members_in members next) → ⊥) → AnswersAtMajority members candidate promises promise None
  gives_none_yet not = λ before now. not (after_majority now)

  pub gives_value : (old : Choice) (value : Value) → attempt.choice ≡ Some old
      → (IsBest candidate (reports_of (first_of_each promises)) old.reported_at old.value → Chooses candidate (reports_of (first_of_each promises) ++ option_to_list promise.report) value)
      → IsMajority members (members_in members next) → AnswersAtMajority members candidate promises promise (Some value)
  gives_value old value was_old chooses majority =
      let kept = kept_some old was_old in
      (kept.0, majority_after majority, rw (reports_with members candidate promises promise attempt was by_new) (chooses kept.1))

  -- something is given, so that it is refused only where it would be
  pub not_none : (old : Choice) → attempt.choice ≡ Some old → IsMajority members (members_in members next) → AnswersAtMajority members candidate promises promise None → ⊥
  not_none old was_old majority none = none (kept_some old was_old).0 (majority_after majority)
