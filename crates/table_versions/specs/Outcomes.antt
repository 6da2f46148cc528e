-- The program's outcomes as those of the definitions.
use Rattle.table_types.specs.Tables.{Outcome, applied, mismatched, conflicting, unknown}
use Rattle.table_versions.specs.declared.outcome.Outcome as told_type
use Rattle.table_versions.specs.declared.outcome.Outcome.TheVariants.{Applied, SchemaMismatch, Conflict, Unknown}

abbrev pub told : told_type.Outcome → Outcome
told (Applied version) = applied version
told SchemaMismatch = mismatched
told Conflict = conflicting
told Unknown = unknown
