-- The highest report among the Promises of a ballot, found message by message.
use Rattle.std.specs.Prelude.{◌≡◌, ℕ, ◌<◌, ◌⊎◌, List, Option, Some, None}
use Rattle.std.specs.List.{All, Any}
use Rattle.ballots.specs.Ballot.{Ballot, IsBelow}
use Rattle.ballots.specs.declared.message.Message.{Message}
use Rattle.run_breaches.specs.Earlier.{Promises, Reports, IsWithin}
use Rattle.run_breaches.specs.Rules.{IsHighestReport}

-- the first message with the highest report, and that report's ballot, or none where no member reports anything
abbrev pub IsBestOf : ℕ → ℕ → List Message → Ballot → Option (ℕ × Ballot) → Type 0
IsBestOf n s before b None = All (λ e. Reports n s b (λ q. Unit {0}) e → ⊥) before
IsBestOf n s before b (Some best) = IsHighestReport n s before b best.0 best.1

-- the best so far gives way to a higher report alone
abbrev pub Turns : Option (ℕ × Ballot) → ℕ → Option Ballot → Option (ℕ × Ballot) → Type 0
Turns best place None next = next ≡ best
Turns None place (Some b) next = next ≡ Some (place, b)
Turns (Some best) place (Some b) next =
    (IsBelow best.1 b × (next ≡ Some (place, b))) ⊎ ((IsBelow best.1 b → ⊥) × (next ≡ Some best))

-- what members report with their Promises is within the bound
abbrev pub BoundsReports : ℕ → ℕ → List Message → Ballot → Option Ballot → Type 0
BoundsReports n s before b bound =
    (a : ℕ) → a < n → Any (Promises s b (λ r. Unit {0}) a) before → Any (Promises s b (IsWithin bound) a) before
