-- How far a walk over fields came that can be written: a tool of the proofs. Which can is defined in `Profile`.
use Rattle.std.specs.Prelude.{◌≡◌, ℕ, ◌≤◌, ◌<◌, ◌⊎◌}
use Rattle.header_types.specs.Fields.{DataType, Forest}
use Rattle.header_types.specs.TypeIds.{AllowsChildren}
use Rattle.header_types.specs.Limits.{SchemaTotals, add_totals, forest_totals, forest_depth, IsWithin, IsBeyond}
use Rattle.header_types.specs.Profile.{IsSized, IsWellFormedForest}
use Rattle.header_types.specs.Adding.{Adds}

-- a field of this type may have so many others inside it, and its size is not negative
abbrev pub IsProper : DataType → ℕ → Type 0
IsProper data_type count = AllowsChildren data_type count × IsSized data_type

-- the fields are well formed, no deeper than so many levels, and their totals were added
pub record FitsForest (levels : ℕ) (old new : SchemaTotals) (fields : Forest) : Type 0 where
  pub not_deep : forest_depth fields ≤ levels
  pub added : Adds old (forest_totals fields) new
  pub within : IsWithin new
  pub well_formed : IsWellFormedForest fields

-- the fields are deeper, too many, or not well formed
abbrev pub ForestIsRefused : ℕ → SchemaTotals → Forest → Type 0
ForestIsRefused levels old fields =
    (levels < forest_depth fields) ⊎ IsBeyond (add_totals old (forest_totals fields)) ⊎ (¬ IsWellFormedForest fields)

-- of these fields, the walk has been over all but the rest, and did not see that they are refused
pub record Leaves (levels : ℕ) (old : SchemaTotals) (fields : Forest) (seen : SchemaTotals)
    (rest : Forest) : Type 0 where
  pub within : IsWithin seen
  pub sums : add_totals seen (forest_totals rest) ≡ add_totals old (forest_totals fields)
  pub not_deep : forest_depth rest ≤ levels → forest_depth fields ≤ levels
  pub deep : levels < forest_depth rest → levels < forest_depth fields
  pub well_formed : IsWellFormedForest rest → IsWellFormedForest fields
  pub rest_well_formed : IsWellFormedForest fields → IsWellFormedForest rest
