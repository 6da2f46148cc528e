-- Turns of an acceptor, one by one: what is promised only rises, and what is kept of each turn leaves what the run leaves.
use Rattle.std.proofs.Common.{◌≡◌, ℕ, inl, inr, List, [], ◌∷◌, ◌++◌, Option, Some, None, refl, sym, ap, subst, ◌∙◌}
use Rattle.std.specs.List.{filter_map, cons_option}
use Rattle.std.proofs.lemmas.Bool.Decides.{eqb_tells}
use Rattle.std.proofs.lemmas.List.{append_assoc, append-nil}
use Rattle.ballots.specs.Ballot.{Ballot, IsBelow, IsAbove, IsAtLeast}
use Rattle.ballots.specs.Slots.{SetsSlot}
use Rattle.ballots.specs.declared.acceptance.Acceptance.{Acceptance}
use Rattle.ballots.specs.declared.record.Record.{Record}
use Rattle.ballots.specs.declared.record.Record.TheVariants.{Promised, Accepted, PromisedFrom}
use Rattle.ballots.proofs.CallerLemmas.{below_carried}
use Rattle.acceptor.specs.declared.answer.Answer.TheVariants.{Promise, PromiseFrom, Granted, Nack}
use Rattle.acceptor.specs.Standing.{Standing, Sets}
use Rattle.acceptor.specs.Restored.{IsRestored}
use Rattle.acceptor.specs.Ranged.{AreBelow, BindsFrom, SetsFrom}
use Rattle.acceptor.specs.Turns.{Turn, PrepareTurn, PrepareFromTurn, AcceptTurn, Takes, IsStandingAfter, record_of}
use Rattle.acceptor.proofs.Ranging.{from_or_apart}
use Rattle.acceptor.proofs.Inserting.{binds_raised}
use Rattle.acceptor.proofs.Restoring.{promised_more, accepted_more, promised_from_more, restored_as_before}
use Rattle.acceptor.proofs.Granting.{at_least_accepted, above_at_least, at_least_same, sets_raised}

-- ---- what is promised only rises

abbrev pub Rises : (ℕ → Option Ballot) → (ℕ → Option Ballot) → Type 0
Rises old new = (other : ℕ) (held : Ballot) → old other ≡ Some held → (now : Ballot) × (new other ≡ Some now) × IsAtLeast now (Some held)

at_least_carried : (a b c : Ballot) → IsAtLeast a (Some b) → IsAtLeast b (Some c) → IsAtLeast a (Some c)
at_least_carried a b c (inl ba) (inl cb) = inl (below_carried c b a cb ba)
at_least_carried a b c (inl ba) (inr same) = inl (subst (λ (x : Ballot). IsBelow x a) (sym same) ba)
at_least_carried a b c (inr same) more = subst (λ (x : Ballot). IsAtLeast x (Some c)) same more

set_rises : (old new : ℕ → Option Ballot) (slot : ℕ) (ballot : Ballot) → SetsSlot old new slot (Some ballot)
    → IsAtLeast ballot (let o : Option Ballot = old slot in o) → Rises old new
set_rises old new slot ballot sets more other held is =
    elim (eqb_tells other slot) as (λ _. (now : Ballot) × (new other ≡ Some now) × IsAtLeast now (Some held)) [
      | inl same ↦ (ballot, ap new same.1 ∙ sets.here, subst (IsAtLeast ballot) (ap old (sym same.1) ∙ is) more)
      | inr differs ↦ (held, sets.others other differs.1 ∙ is, inr refl)
    ]

same_rises : (old new : ℕ → Option Ballot) → ((slot : ℕ) → new slot ≡ old slot) → Rises old new
same_rises old new same other held is = (held, same other ∙ is, inr refl)

at_least_of_above : (ballot : Ballot) (o : Option Ballot) → IsAbove ballot o → IsAtLeast ballot o
at_least_of_above ballot None above = tt
at_least_of_above ballot (Some held) above = inl above

pub bound_rises : (old new : ℕ → Option Ballot) (first : ℕ) (ballot : Ballot) → AreBelow old first ballot → BindsFrom old new first ballot → Rises old new
bound_rises old new first ballot below binds other held is =
    elim (from_or_apart first other) as (λ _. (now : Ballot) × (new other ≡ Some now) × IsAtLeast now (Some held)) [
      | inl from ↦ (ballot, binds.from other from, inl (subst (IsAbove ballot) is (below other from)))
      | inr apart ↦ (held, binds.others other apart ∙ is, inr refl)
    ]

pub turn_rises : (old new : Standing) (turn : Turn) → Takes old new turn → Rises old.promised new.promised
turn_rises old new (PrepareTurn slot ballot (Promise report)) (above, is, sets) =
    set_rises old.promised new.promised slot ballot sets.promises (at_least_of_above ballot (old.promised slot) above)
turn_rises old new (PrepareTurn slot ballot (Nack promised)) (is, more, same) = same_rises old.promised new.promised same.promises
turn_rises old new (PrepareTurn slot ballot Granted) never = absurd never
turn_rises old new (PrepareTurn slot ballot (PromiseFrom reports)) never = absurd never
turn_rises old new (PrepareFromTurn first ballot (PromiseFrom reports)) (below, reported, sets) = bound_rises old.promised new.promised first ballot below sets.promises
turn_rises old new (PrepareFromTurn first ballot (Nack promised)) refuses = same_rises old.promised new.promised refuses.same.promises
turn_rises old new (PrepareFromTurn first ballot (Promise report)) never = absurd never
turn_rises old new (PrepareFromTurn first ballot Granted) never = absurd never
turn_rises old new (AcceptTurn slot proposal Granted) (more, sets) = set_rises old.promised new.promised slot proposal.ballot sets.promises more
turn_rises old new (AcceptTurn slot proposal (Nack promised)) (is, below, same) = same_rises old.promised new.promised same.promises
turn_rises old new (AcceptTurn slot proposal (Promise report)) never = absurd never
turn_rises old new (AcceptTurn slot proposal (PromiseFrom reports)) never = absurd never

pub run_rises : (old : Standing) (turns : List Turn) (new : Standing) → IsStandingAfter old turns new → Rises old.promised new.promised
run_rises old [] new same = same_rises old.promised new.promised same.promises
run_rises old (turn ∷ turns) new (mid, takes, runs) = λ other held is.
    let first = turn_rises old mid turn takes other held is in
    let last = run_rises mid turns new runs other first.0 first.1 in
    (last.0, last.1, at_least_carried last.0 first.0 held last.2 first.2)

-- what is at least what a slot has promised is at least all that it had
pub at_least_before : (old new : ℕ → Option Ballot) (slot : ℕ) (held ballot : Ballot) → Rises old new → old slot ≡ Some held → IsAtLeast ballot (new slot) → IsAtLeast ballot (Some held)
at_least_before old new slot held ballot rises is more =
    let now = rises slot held is in
    at_least_carried ballot now.0 held (subst (IsAtLeast ballot) now.1 more) now.2

pub above_before : (old new : ℕ → Option Ballot) (slot : ℕ) (held ballot : Ballot) → Rises old new → old slot ≡ Some held → IsAbove ballot (new slot) → IsBelow held ballot
above_before old new slot held ballot rises is above =
    let now = rises slot held is in
    below_at_least held now.0 ballot now.2 (subst (IsAbove ballot) now.1 above)
  where
    below_at_least : (a b c : Ballot) → IsAtLeast b (Some a) → IsBelow b c → IsBelow a c
    below_at_least a b c (inl below) bc = below_carried a b c below bc
    below_at_least a b c (inr same) bc = subst (λ (x : Ballot). IsBelow x c) (sym same) bc

-- ---- what is kept of each turn leaves what the run leaves

set_to_itself : {X : Type 0} (old new : ℕ → X) (slot : ℕ) → SetsSlot old new slot (old slot) → (other : ℕ) → new other ≡ old other
set_to_itself {X} old new slot sets other = elim (eqb_tells other slot) as (λ _. new other ≡ old other) [
  | inl same ↦ ap new same.1 ∙ sets.here ∙ ap old (sym same.1)
  | inr differs ↦ sets.others other differs.1
]

pub promise_restored : (records : List Record) (old new : Standing) (slot : ℕ) (ballot : Ballot) → IsRestored records old → IsAbove ballot (old.promised slot)
    → Sets old new slot ballot (old.accepted slot) → IsRestored (records ++ Promised slot ballot ∷ []) new
promise_restored records old new slot ballot is above sets =
    promised_more records slot ballot old new is
    (sets_raised (λ held. held) old.promised new.promised slot ballot sets.promises (above_at_least ballot (old.promised slot) above))
    (set_to_itself old.accepted new.accepted slot sets.acceptances)

pub grant_restored : (records : List Record) (old new : Standing) (slot : ℕ) (a : Acceptance) → IsRestored records old → IsAtLeast a.ballot (old.promised slot)
    → Sets old new slot a.ballot (Some a) → IsRestored (records ++ Accepted slot a ∷ []) new
grant_restored records old new slot a is more sets =
    accepted_more records slot a old new is
    (sets_raised (λ held. held) old.promised new.promised slot a.ballot sets.promises (at_least_same a.ballot (old.promised slot) more))
    (sets_raised (λ (held : Acceptance). held.ballot) old.accepted new.accepted slot a sets.acceptances
    (at_least_accepted slot records a.ballot (old.promised slot) (old.accepted slot) (is.promises slot) (is.acceptances slot) more))

pub promise_from_restored : (records : List Record) (old new : Standing) (first : ℕ) (ballot : Ballot) → IsRestored records old → AreBelow old.promised first ballot
    → SetsFrom old new first ballot → IsRestored (records ++ PromisedFrom first ballot ∷ []) new
promise_from_restored records old new first ballot is below sets =
    promised_from_more records first ballot old new is (binds_raised old.promised new.promised first ballot below sets.promises) sets.acceptances

turn_restored : (records : List Record) (old new : Standing) (turn : Turn) → IsRestored records old → Takes old new turn
    → IsRestored (records ++ cons_option (record_of turn) []) new
turn_restored records old new (PrepareTurn slot ballot (Promise report)) is (above, reported, sets) = promise_restored records old new slot ballot is above sets
turn_restored records old new (PrepareTurn slot ballot (Nack promised)) is (held, more, same) = rw append-nil (restored_as_before records old new same is)
turn_restored records old new (PrepareTurn slot ballot (PromiseFrom reports)) is never = absurd never
turn_restored records old new (PrepareTurn slot ballot Granted) is never = absurd never
turn_restored records old new (PrepareFromTurn first ballot (PromiseFrom reports)) is (below, reported, sets) = promise_from_restored records old new first ballot is below sets
turn_restored records old new (PrepareFromTurn first ballot (Nack promised)) is refuses = rw append-nil (restored_as_before records old new refuses.same is)
turn_restored records old new (PrepareFromTurn first ballot (Promise report)) is never = absurd never
turn_restored records old new (PrepareFromTurn first ballot Granted) is never = absurd never
turn_restored records old new (AcceptTurn slot proposal Granted) is (more, sets) = grant_restored records old new slot proposal is more sets
turn_restored records old new (AcceptTurn slot proposal (Nack promised)) is (held, below, same) = rw append-nil (restored_as_before records old new same is)
turn_restored records old new (AcceptTurn slot proposal (Promise report)) is never = absurd never
turn_restored records old new (AcceptTurn slot proposal (PromiseFrom reports)) is never = absurd never

pub run_restored : (records : List Record) (old : Standing) (turns : List Turn) (new : Standing) → IsRestored records old → IsStandingAfter old turns new
    → IsRestored (records ++ filter_map record_of turns) new
run_restored records old [] new is same = rw append-nil (restored_as_before records old new same is)
run_restored records old (turn ∷ turns) new is (mid, takes, runs) =
    subst (λ (l : List Record). IsRestored l new) (onto records (record_of turn) (filter_map record_of turns))
    (run_restored (records ++ cons_option (record_of turn) []) mid turns new (turn_restored records old mid turn is takes) runs)
  where
    onto : (xs : List Record) (o : Option Record) (ys : List Record) → (xs ++ cons_option o []) ++ ys ≡ xs ++ cons_option o ys
    onto xs None ys = ap (λ (l : List Record). l ++ ys) (append-nil xs)
    onto xs (Some x) ys = append_assoc xs (x ∷ []) ys
