-- What is printed of tables: Apache Arrow, "Flight.proto", `FlightInfo`, where a number of rows or of bytes that is not
-- known is -1. Numbers are decimal. The lines are this program's own.
use Rattle.std.specs.Prelude.{◌≡◌, ◌⊎◌, ℕ, ℤ, List, [], ◌∷◌, ◌++◌, codes, decimal, string_bytes, String, Some, Result, Ok, Err}
use Rattle.std.specs.declared.alloc.Global.{Global}
use Rattle.std.specs.Fmt.{signed_decimal}
use Rattle.std.specs.List.{flat_map}
use Rattle.header_types.specs.Fields.{SchemaTree}
use Rattle.proto_messages.specs.Descriptor.{Values}
use Rattle.proto_wire.specs.Flight.{info_descriptor, endpoint_descriptor, location_descriptor, flight_descriptor_descriptor}
use Rattle.table_types.specs.Ticket.{TableVersion}
use Rattle.call_protocol.specs.Names.{NamesTable}
use Rattle.client_calls.specs.declared.client_fault.ClientFault.TheVariants.{BadAnswer}
use Rattle.client_command.specs.declared.fault.CommandFault.{CommandFault}
use Rattle.client_command.specs.declared.fault.CommandFault.TheVariants.{Call, OutOfMemory}
use Rattle.client_command.specs.Fields.{HasSchema, fields_text}
use Rattle.client_command.specs.Latest.{IsLatest}

-- ---- of all tables, a line each

-- the table's name, its latest version, and how many rows and bytes that has
abbrev pub table_line : TableVersion → ℤ → ℤ → List ℕ
table_line latest rows bytes =
    latest.table
    ++ (codes " " ++ (decimal latest.version ++ (codes " " ++ (signed_decimal rows ++ (codes " " ++ (signed_decimal bytes ++ codes "\n"))))))

-- a table is named, and this is the line of its latest version
pub record TellsTable (values : Values info_descriptor) (line : List ℕ) : Type 0 where
  pub descriptor : Values flight_descriptor_descriptor
  pub described : values.1.0 ≡ Some descriptor
  pub latest : TableVersion
  pub named : NamesTable descriptor latest.table
  pub is_latest : IsLatest latest.table latest values
  pub is : line ≡ table_line latest values.1.1.1.0 values.1.1.1.1.0

-- the lines, one behind the other
abbrev pub TellsTables : List (Values info_descriptor) → List ℕ → Type 0
TellsTables [] text = text ≡ []
TellsTables (values ∷ all) text =
    (line rest : List ℕ) × TellsTable values line × TellsTables all rest × (text ≡ line ++ rest)

-- ---- of one table

-- its latest version, and how many rows and bytes that has
abbrev pub numbers_text : ℕ → ℤ → ℤ → List ℕ
numbers_text version rows bytes =
    codes "version "
    ++ (decimal version
    ++ (codes "\nrows " ++ (signed_decimal rows ++ (codes "\nbytes " ++ (signed_decimal bytes ++ codes "\n")))))

abbrev pub location_line : Values location_descriptor → List ℕ
location_line location = codes "location " ++ (location.0 ++ codes "\n")

abbrev pub endpoint_locations : Values endpoint_descriptor → List (Values location_descriptor)
endpoint_locations endpoint = endpoint.1.0

-- where it is served
abbrev pub locations_text : List (Values endpoint_descriptor) → List ℕ
locations_text endpoints = flat_map (λ (endpoint : Values endpoint_descriptor). flat_map location_line (endpoint_locations endpoint)) endpoints

-- the lines of this version of a table that has this schema
abbrev pub info_text : ℕ → Values info_descriptor → SchemaTree → List ℕ
info_text version values schema =
    numbers_text version values.1.1.1.0 values.1.1.1.1.0 ++ (locations_text values.1.1.0 ++ fields_text schema.fields)

-- this is what is told of the table: the lines of its latest version and of the schema that the bytes show
pub record TellsInfo (table : List ℕ) (values : Values info_descriptor) (text : List ℕ) : Type 0 where
  pub latest : TableVersion
  pub is_latest : IsLatest table latest values
  pub schema : SchemaTree
  pub has_schema : HasSchema values.0 schema
  pub is : text ≡ info_text latest.version values schema

-- ---- what making a text gives

-- memory was refused, or there is no such text
abbrev pub NoText : {V : Type 0} → (V → List ℕ → Type 0) → V → CommandFault → Type 0
NoText IsText values fault = (fault ≡ OutOfMemory) ⊎ ((fault ≡ Call BadAnswer) × ((text : List ℕ) → ¬ IsText values text))

abbrev pub TextSays : {V : Type 0} → (V → List ℕ → Type 0) → V → Result (String Global) CommandFault → Type 0
TextSays IsText values (Ok text) = IsText values (string_bytes text)
TextSays IsText values (Err fault) = NoText IsText values fault
