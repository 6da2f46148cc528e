-- Which value an attempt proposes, by the promises that answered it: Lamport, "Paxos Made Simple", section 2.2, phase
-- 2a.
use Rattle.std.specs.Prelude.{◌≡◌, ℕ, ◌==◌, ◌⊎◌, Bool, not, List, [], ◌∷◌, ◌++◌, filter, filter_map}
use Rattle.std.specs.List.{list_any, AllByRecursion}
use Rattle.ballots.specs.Ballot.{Ballot, IsBelow}
use Rattle.ballots.specs.Majority.{tally, IsMajority}
use Rattle.ballots.specs.declared.acceptance.Acceptance.{Acceptance}
use Rattle.ballots.specs.declared.value.Value.{Value}
use Rattle.proposer.specs.Call.{Promise}

-- what a promise reports: an acceptance of its sender
abbrev pub PromiseReport : Type 0
PromiseReport = Acceptance

abbrev pub is_from : ℕ → Promise → Bool
is_from node promise = promise.sender == node

-- whether the node sent one of these
abbrev pub is_sender : List Promise → ℕ → Bool
is_sender promises node = list_any (is_from node) promises

-- the senders are a majority, each of them counted once
abbrev pub HasMajority : ℕ → List Promise → Type 0
HasMajority members promises = IsMajority members (tally members (is_sender promises))

-- each sender's first
abbrev pub first_of_each : List Promise → List Promise
first_of_each [] = []
first_of_each (promise ∷ promises) =
    promise ∷ filter (λ other. not (is_from promise.sender other)) (first_of_each promises)

-- what they report, in their order
abbrev pub reports_of : List Promise → List PromiseReport
reports_of promises = filter_map (λ promise. promise.report) promises

-- the first of the highest ballot among them: those before it are below it, and those after it are not above it
pub record IsHighest (reports : List PromiseReport) (report : PromiseReport) : Type 0 where
  pub before : List PromiseReport
  pub after : List PromiseReport
  pub split : reports ≡ before ++ report ∷ after
  pub above_those_before : AllByRecursion (λ other. IsBelow other.ballot report.ballot) before
  pub not_below_those_after : AllByRecursion (λ other. IsBelow report.ballot other.ballot → ⊥) after

-- The value of the highest report, or the candidate where nothing is reported.
abbrev pub Chooses : Value → List PromiseReport → Value → Type 0
Chooses candidate reports value =
    ((reports ≡ []) × (value ≡ candidate))
    ⊎ ((ballot : Ballot) × IsHighest reports (record { ballot = ballot; value = value }))
