-- What an attempt keeps of the reports of slots behind its first: a tool of the proofs.
use Rattle.std.specs.Prelude.{◌≡◌, ℕ, suc, ◌<◌, ◌≤◌, nat_lt, true, cond, ◌⊎◌, Option, Some, None}
use Rattle.std.specs.Prelude.{List, [], ◌∷◌, ◌++◌, map, filter_map, length}
use Rattle.std.specs.List.{AllByRecursion}
use Rattle.std.specs.Option.{option_map, unwrap_or}
use Rattle.ballots.specs.Limits.{max_members, max_slot}
use Rattle.ballots.specs.declared.acceptance.Acceptance.{Acceptance}
use Rattle.ballots.specs.declared.value.Value.{Value}
use Rattle.proposer.specs.declared.reports.Reports.{Reports}
use Rattle.proposer.specs.Choosing.{PromiseReport, Chooses}
use Rattle.proposer.specs.Reporting.{report_of, rises_from}

-- the next slot, and the reports of each promise that counts, by rising slots
pub record AheadState : Type 0 where
  pub next : ℕ
  pub kept : List (List (ℕ × Acceptance))

-- what is left of the reports of one promise
abbrev pub reports_in : Reports → List (ℕ × Acceptance)
reports_in reports = unwrap_or (option_map (λ ahead. ahead.items) reports.ahead) []

-- without those of slots below this one, where the slots rise
abbrev pub from_slot : ℕ → List (ℕ × Acceptance) → List (ℕ × Acceptance)
from_slot slot [] = []
from_slot slot (report ∷ reports) = cond (nat_lt report.0 slot) (from_slot slot reports) (report ∷ reports)

-- the first of them is of a slot below this one
abbrev pub IsFrontBelow : ℕ → List (ℕ × Acceptance) → Type 0
IsFrontBelow slot [] = ⊥
IsFrontBelow slot (report ∷ reports) = report.0 < slot

-- what they say of a slot, in the order in which they came
abbrev pub reported_at : ℕ → List (List (ℕ × Acceptance)) → List PromiseReport
reported_at slot kept = filter_map (report_of slot) kept

-- each list rises from this slot on
abbrev pub RiseFrom : ℕ → List (List (ℕ × Acceptance)) → Type 0
RiseFrom slot kept = AllByRecursion (λ reports. rises_from slot reports ≡ true) kept

abbrev pub AllRise : AheadState → Type 0
AllRise ahead = RiseFrom ahead.next ahead.kept

-- something is reported
abbrev pub HasSome : List (List (ℕ × Acceptance)) → Type 0
HasSome [] = ⊥
HasSome (reports ∷ kept) = (reports ≡ [] → ⊥) ⊎ HasSome kept

-- with what one promise more reports
abbrev pub with_reports : List (ℕ × Acceptance) → AheadState → AheadState
with_reports reports ahead = record { next = ahead.next; kept = ahead.kept ++ from_slot ahead.next reports ∷ [] }

-- there is a place for another promise
abbrev pub HasRoom : Option AheadState → Type 0
HasRoom None = Unit {0}
HasRoom (Some ahead) = length ahead.kept < max_members

-- ---- going on

abbrev pub HasNext : Option AheadState → Type 0
HasNext None = ⊥
HasNext (Some ahead) = ahead.next ≤ max_slot

abbrev pub HasSomeAhead : Option AheadState → Type 0
HasSomeAhead None = ⊥
HasSomeAhead (Some ahead) = HasSome ahead.kept

-- the next slot, if there is one, with the value that is reported highest of it, or the candidate
abbrev pub GivesNext : Value → AheadState → Option (ℕ × Value) → Type 0
GivesNext candidate ahead None = max_slot < ahead.next
GivesNext candidate ahead (Some given) =
    (ahead.next ≤ max_slot) × (given.0 ≡ ahead.next)
    × (AllRise ahead → Chooses candidate (reported_at ahead.next ahead.kept) given.1)

abbrev pub GivesAhead : Value → Option AheadState → Option (ℕ × Value) → Type 0
GivesAhead candidate None given = given ≡ None
GivesAhead candidate (Some ahead) given = GivesNext candidate ahead given

-- the slot behind it is the next one then, and what is reported from there on is kept
abbrev pub MovesOn : AheadState → AheadState → Option (ℕ × Value) → Type 0
MovesOn old new None = new ≡ old
MovesOn old new (Some given) =
    (new.next ≡ suc old.next) × (AllRise old → new.kept ≡ map (from_slot (suc old.next)) old.kept)

abbrev pub MovesAhead : Option AheadState → Option AheadState → Option (ℕ × Value) → Type 0
MovesAhead None None given = given ≡ None
MovesAhead (Some old) (Some new) given = MovesOn old new given
MovesAhead None (Some new) given = ⊥
MovesAhead (Some old) None given = ⊥
