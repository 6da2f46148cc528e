-- What a descriptor names: Apache Arrow, "Flight.proto", `FlightDescriptor`. How this service names tables and uploads in a
-- path is its own: a table by its name alone, an upload by its table and its id in hexadecimal.
use Rattle.std.specs.Prelude.{◌≡◌, ◌≢◌, ◌⊎◌, ℕ, List, [], ◌∷◌, Option, Some}
use Rattle.hex.specs.Hex.{encode_lower}
use Rattle.proto_messages.specs.Descriptor.{Values}
use Rattle.proto_wire.specs.Flight.{flight_descriptor_descriptor, path_type, cmd_type}
use Rattle.table_types.specs.Valid.{IsTableName, IsId}
use Rattle.call_protocol.specs.declared.refusal.CallRefusal.{CallRefusal}
use Rattle.call_protocol.specs.declared.refusal.CallRefusal.TheVariants as refusals

abbrev pub Descriptor : Type 0
Descriptor = Values flight_descriptor_descriptor

-- the descriptor is this path, whatever command stands beside it
pub record IsPath (descriptor : Descriptor) (elements : List (List ℕ)) : Type 0 where
  pub type_is : descriptor.0 ≡ path_type
  pub path_is : descriptor.1.1.0 ≡ elements

-- it names this table
pub record NamesTable (descriptor : Descriptor) (table : List ℕ) : Type 0 where
  pub is_path : IsPath descriptor (table ∷ [])
  pub named : IsTableName table

-- the id of an upload, two digits a byte, in lower case
abbrev pub id_text : List ℕ → List ℕ
id_text id = encode_lower id

-- it names an upload of this id to this table
pub record NamesUpload (descriptor : Descriptor) (table id : List ℕ) : Type 0 where
  pub is_path : IsPath descriptor (table ∷ id_text id ∷ [])
  pub named : IsTableName table
  pub id_named : IsId id

-- Why a descriptor does not name what it should: it is a command, or else no such path.
abbrev pub DescriptorFault : Type 0 → Descriptor → CallRefusal → Type 0
DescriptorFault Names descriptor refusal =
    ((descriptor.0 ≡ cmd_type) × (refusal ≡ refusals.CmdDescriptor))
    ⊎ ((descriptor.0 ≢ cmd_type) × (¬ Names) × (refusal ≡ refusals.BadDescriptor))

abbrev pub TableFault : Descriptor → CallRefusal → Type 0
TableFault descriptor refusal =
    DescriptorFault ((table : List ℕ) × NamesTable descriptor table) descriptor refusal

abbrev pub UploadNameFault : Descriptor → CallRefusal → Type 0
UploadNameFault descriptor refusal =
    DescriptorFault ((table id : List ℕ) × NamesUpload descriptor table id) descriptor refusal

-- the descriptor of a table, as it is written
abbrev pub table_descriptor : List ℕ → Descriptor
table_descriptor table = (path_type, ([], (table ∷ [], tt)))

abbrev pub upload_descriptor : List ℕ → List ℕ → Descriptor
upload_descriptor table id = (path_type, ([], (table ∷ id_text id ∷ [], tt)))
