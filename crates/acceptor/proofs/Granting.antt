-- What is granted is at least all that its slot has accepted.
use Rattle.std.proofs.Common.{ℕ, nat_eq, nat_le, ◌&&◌, true, false, Bool, if◌then◌else◌, inl, inr, List, [], ◌∷◌, Option, Some, None, sym, subst}
use Rattle.std.specs.Option.{option_map}
use Rattle.std.specs.List.{Contains, filter_map, cons_option}
use Rattle.std.proofs.lemmas.List.Elements.{Contains-append_left, Contains-append_right, Contains-append_cases}
use Rattle.ballots.specs.Ballot.{Ballot, IsAbove, IsAtLeast}
use Rattle.ballots.specs.Limits.{max_slot}
use Rattle.ballots.specs.Slots.{SetsSlot}
use Rattle.ballots.specs.declared.acceptance.Acceptance.{Acceptance}
use Rattle.ballots.specs.declared.record.Record.{Record}
use Rattle.ballots.specs.declared.record.Record.TheVariants.{Began, Promised, Accepted, PromisedFrom}
use Rattle.ballots.proofs.CallerLemmas.{at_least_where_not_below, not_below_more}
use Rattle.acceptor.specs.Raising.{Raises}
use Rattle.acceptor.specs.Restored.{promise_in, acceptance_in, IsHighest, IsLastHighest}
use Rattle.acceptor.proofs.Lists.{nothing_in, one_in, only_one}
use Rattle.acceptor.proofs.Highest.{in_middle}

-- one ballot more, where there is one
one_behind : (ballots : List Ballot) (a b : Ballot) → Contains ballots a → (here : Bool)
    → Contains (cons_option (let o : Option Ballot = if here then Some b else None in o) ballots) a
one_behind ballots a b there true = Contains-append_right (b ∷ []) ballots a there
one_behind ballots a b there false = there

-- the ballot of an acceptance is among those that are promised
pub promised_with : (slot : ℕ) (records : List Record) (a : Acceptance) → Contains (filter_map (acceptance_in slot) records) a
    → Contains (filter_map (promise_in slot) records) a.ballot
promised_with slot [] a has = absurd (nothing_in a has)
promised_with slot (Began ballot ∷ records) a has = promised_with slot records a has
promised_with slot (Promised of ballot ∷ records) a has = one_behind (filter_map (promise_in slot) records) a.ballot ballot (promised_with slot records a has) (nat_eq slot of)
promised_with slot (PromisedFrom first ballot ∷ records) a has =
    one_behind (filter_map (promise_in slot) records) a.ballot ballot (promised_with slot records a has) (nat_le first slot && nat_le slot max_slot)
promised_with slot (Accepted of b ∷ records) a has = either (λ behind. promised_with slot records a behind) (nat_eq slot of) has
  where
    either : (Contains (filter_map (acceptance_in slot) records) a → Contains (filter_map (promise_in slot) records) a.ballot) → (here : Bool)
        → Contains (cons_option (let o : Option Acceptance = if here then Some b else None in o) (filter_map (acceptance_in slot) records)) a
        → Contains (cons_option (let o : Option Ballot = if here then Some b.ballot else None in o) (filter_map (promise_in slot) records)) a.ballot
    either rest true has = elim (Contains-append_cases (b ∷ []) (filter_map (acceptance_in slot) records) a has)
        as (λ _. Contains (b.ballot ∷ filter_map (promise_in slot) records) a.ballot) [
          | inl here ↦ subst (λ (x : Acceptance). Contains (b.ballot ∷ filter_map (promise_in slot) records) x.ballot) (sym (only_one b a here))
              (Contains-append_left (b.ballot ∷ []) (filter_map (promise_in slot) records) b.ballot (one_in b.ballot))
          | inr behind ↦ Contains-append_right (b.ballot ∷ []) (filter_map (promise_in slot) records) a.ballot (rest behind)
        ]
    either rest false has = rest has

-- what is at least the highest promise is at least the highest acceptance
pub at_least_accepted : (slot : ℕ) (records : List Record) (ballot : Ballot) (promised : Option Ballot) (accepted : Option Acceptance)
    → IsHighest (filter_map (promise_in slot) records) promised → IsLastHighest (filter_map (acceptance_in slot) records) accepted
    → IsAtLeast ballot promised → IsAtLeast ballot (option_map (λ (held : Acceptance). held.ballot) accepted)
at_least_accepted slot records ballot promised None is_promised is_accepted more = tt
at_least_accepted slot records ballot None (Some a) is_promised (before, after, split, not_above, below) more =
    let has = promised_with slot records a (subst (λ (l : List Acceptance). Contains l a) (sym split) (in_middle before a after)) in
    absurd (nothing_in a.ballot (subst (λ (l : List Ballot). Contains l a.ballot) is_promised has))
at_least_accepted slot records ballot (Some p) (Some a) is_promised (before, after, split, not_above, below) more =
    let has = promised_with slot records a (subst (λ (l : List Acceptance). Contains l a) (sym split) (in_middle before a after)) in
    (at_least_where_not_below a.ballot ballot).1 (not_below_more p ballot a.ballot more (is_promised.1 a.ballot has))

-- a ballot above what may be none is at least that
pub above_at_least : (ballot : Ballot) (o : Option Ballot) → IsAbove ballot o → IsAtLeast ballot (option_map (λ held. held) o)
above_at_least ballot None above = tt
above_at_least ballot (Some held) above = inl above

pub at_least_same : (ballot : Ballot) (o : Option Ballot) → IsAtLeast ballot o → IsAtLeast ballot (option_map (λ held. held) o)
at_least_same ballot None more = tt
at_least_same ballot (Some held) more = more

-- an entry that is set at such a ballot is raised
pub sets_raised : {X : Type 0} (ballot_of : X → Ballot) (old new : ℕ → Option X) (slot : ℕ) (entry : X) → SetsSlot old new slot (Some entry)
    → IsAtLeast (ballot_of entry) (option_map ballot_of (old slot)) → Raises ballot_of old new slot entry
sets_raised {X} ballot_of old new slot entry sets more = record {
  kept = λ held is below. absurd ((at_least_where_not_below (ballot_of held) (ballot_of entry)).0
      (subst (λ (o : Option X). IsAtLeast (ballot_of entry) (option_map ballot_of o)) is more) below);
  raised = λ at_least. sets.here;
  others = sets.others;
}
