-- What contracts see of the steps that a journal keeps, whichever way it keeps them.
use Rattle.std.specs.Prelude.{Bool, true, false}
use Rattle.journal.specs.Recalled.{Recalled}
use Rattle.journal.specs.declared.kept.Either.{Either}
use Rattle.journal.specs.declared.kept.Either.TheVariants.{Whole, Recent}

-- what is recalled, and whether all of it is held
pub record Kept : Type 0 where
  pub recalled : Recalled
  pub whole : Bool

abbrev pub kept_by : Either → Kept
kept_by (Whole steps) = record { recalled = steps; whole = true }
kept_by (Recent steps) = record { recalled = steps; whole = false }
