-- Which schemas can be written and read back. Apache Arrow, "Schema.fbs", the tables `Field`, `FixedSizeBinary` and
-- `FixedSizeList`, and "Arrow Columnar Format", "Physical memory layout", for the fields that each type has inside it.
use Rattle.std.specs.Prelude.{pos, ◌≤ℤ◌, ◌≤◌}
use Rattle.header_types.specs.Fields.{DataType, null_type, int_type, floating_point_type, binary_type, utf8_type}
use Rattle.header_types.specs.Fields.{bool_type, decimal_type, date_type, time_type, timestamp_type, list_type}
use Rattle.header_types.specs.Fields.{struct_type, fixed_size_binary_type, fixed_size_list_type, duration_type, Tree}
use Rattle.header_types.specs.Fields.{tree, Forest, no_more, more, width, SchemaTree}
use Rattle.header_types.specs.TypeIds.{AllowsChildren}
use Rattle.header_types.specs.Limits.{depth_limit, forest_depth, schema_totals, IsWithin}

-- a size is not negative
abbrev pub IsSized : DataType → Type 0
IsSized null_type = Unit {0}
IsSized (int_type width signed) = Unit {0}
IsSized (floating_point_type precision) = Unit {0}
IsSized binary_type = Unit {0}
IsSized utf8_type = Unit {0}
IsSized bool_type = Unit {0}
IsSized (decimal_type precision scale width) = Unit {0}
IsSized (date_type unit) = Unit {0}
IsSized (time_type unit) = Unit {0}
IsSized (timestamp_type unit timezone) = Unit {0}
IsSized list_type = Unit {0}
IsSized struct_type = Unit {0}
IsSized (fixed_size_binary_type byte_width) = pos 0 ≤ℤ byte_width
IsSized (fixed_size_list_type list_size) = pos 0 ≤ℤ list_size
IsSized (duration_type unit) = Unit {0}

-- every field has as many inside it as its type allows, and no negative size
abbrev mutual
  pub IsWellFormedTree : Tree → Type 0
  IsWellFormedTree (tree field entries inner) =
      AllowsChildren field.data_type (width inner) × IsSized field.data_type × IsWellFormedForest inner

  pub IsWellFormedForest : Forest → Type 0
  IsWellFormedForest no_more = Unit {0}
  IsWellFormedForest (more t rest) = IsWellFormedTree t × IsWellFormedForest rest

-- no deeper and no larger than a schema may be, and well formed
pub record InProfile (schema : SchemaTree) : Type 0 where
  pub not_deep : forest_depth schema.fields ≤ depth_limit
  pub within : IsWithin (schema_totals schema)
  pub well_formed : IsWellFormedForest schema.fields
