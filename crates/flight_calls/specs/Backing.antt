-- What the values of a backend say, as what it may answer.
use Rattle.std.specs.Prelude.{◌≡◌, List, map, string_bytes}
use Rattle.std.specs.List.{AllZip}
use Rattle.table_types.specs.Uploads.{schema_text}
use Rattle.table_types.specs.Valid.{FitsFrame}
use Rattle.table_types.specs.Ticket.{IsTableVersion}
use Rattle.flight_calls.specs.declared.table_description.TableDescription.{TableDescription}
use Rattle.flight_calls.specs.Replies.{Description}

-- the value describes this version, which there can be, by a schema that a frame has room for
pub record Describes (d : TableDescription) (description : Description) : Type 0 where
  pub valid : IsTableVersion description.version
  pub table : string_bytes d.info.table ≡ description.version.table
  pub version : d.info.version ≡ description.version.version
  pub records : d.info.records ≡ description.records
  pub total_bytes : d.info.total_bytes ≡ description.total_bytes
  pub schema : d.info.schema.items ≡ schema_text description.schema
  pub small : FitsFrame (schema_text description.schema)
  pub locations : map string_bytes d.locations.items ≡ description.locations

-- each of them does, in order
abbrev pub DescribeAll : List TableDescription → List Description → Type 0
DescribeAll all descriptions = AllZip Describes all descriptions
