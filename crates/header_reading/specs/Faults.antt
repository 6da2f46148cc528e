-- What is wrong with a text that shows no header, each fault by a condition of its own on the text. Where several
-- stand, which one is told is open.
use Rattle.std.specs.Prelude.{◌≡◌, ◌≢◌, ◌≤◌, ◌<◌, ◌⊎◌, ℕ, zero, suc, ◌+◌, ◌*◌, Bool, true, false, List, length, Option}
use Rattle.std.specs.Prelude.{Some, None}
use Rattle.flat_places.specs.Number.{ShowsReference}
use Rattle.flat_places.specs.Table.{ShowsField}
use Rattle.flat_places.specs.Fault.{NumberFault}
use Rattle.header_types.specs.declared.fault.MetaFault.{MetaFault}
use Rattle.header_types.specs.declared.fault.MetaFault.TheVariants.{OutOfBounds, Version, Endianness, Unsupported}
use Rattle.header_types.specs.declared.fault.MetaFault.TheVariants.{Dictionary, TooDeep, TooManyFields, NotUtf8}
use Rattle.header_types.specs.declared.fault.MetaFault.TheVariants.{BadHeader, OutOfMemory}
use Rattle.header_types.specs.Fields.{Entry, DataType, Forest, width}
use Rattle.header_types.specs.Slots.{ShowsNumber, ShowsReferenceField, VectorRef, ShowsVectorRef, FromPlaceFault}
use Rattle.header_types.specs.Slots.{FieldSlotFault, SlotNumberFault, ReferenceFault, StringFault, VectorRefFault}
use Rattle.header_types.specs.TypeIds.{Parameter, parameters_of, has_timezone, data_type_from, is_carried, is_decimal}
use Rattle.header_types.specs.TypeIds.{AllowsChildren}
use Rattle.header_types.specs.Shown.{ShowsEntries, ShowsParameters, ShowsDataType, ShowsForestPart}
use Rattle.header_types.specs.Limits.{depth_limit, add_totals, entries_totals, forest_totals, IsBeyond}
use Rattle.header_types.specs.Header.{version_5, schema_type, dictionary_type, batch_type, ShowsMessage}

-- ---- metadata

-- one of the two texts of an entry
abbrev pub EntryFault : List ℕ → ℕ → MetaFault → Type 0
EntryFault text table fault = StringFault text table 0 fault ⊎ StringFault text table 1 fault

-- one of so many entries whose references stand from the place on
abbrev pub EntriesFault : List ℕ → VectorRef → MetaFault → Type 0
EntriesFault text vector fault =
    (i table : ℕ) × (i < vector.count) × ShowsReference text (vector.first + 4 * i) table × EntryFault text table fault

-- the metadata at field n of a table
abbrev pub MetadataFault : List ℕ → ℕ → ℕ → MetaFault → Type 0
MetadataFault text table n fault =
    VectorRefFault text table n 4 fault ⊎ ((vector : VectorRef) × ShowsVectorRef text table n 4 vector
    × EntriesFault text vector fault)

-- ---- a field

-- the way to a parameter, or the parameter; a parameter that the type does not have is not looked at
abbrev pub ParameterFault : List ℕ → ℕ → ℕ → Option Parameter → MetaFault → Type 0
ParameterFault text table n None fault = ⊥
ParameterFault text table n (Some p) fault =
    ReferenceFault text table 3 fault
    ⊎ ((type : ℕ) × ShowsReferenceField text table 3 (Some type) × SlotNumberFault text type n p.size fault)

abbrev pub TimezoneFault : List ℕ → ℕ → Bool → MetaFault → Type 0
TimezoneFault text table false fault = ⊥
TimezoneFault text table true fault =
    ReferenceFault text table 3 fault ⊎ ((type : ℕ) × ShowsReferenceField text table 3 (Some type)
    × StringFault text type 1 fault)

-- the parameters of the type of this number
abbrev pub ParametersFault : List ℕ → ℕ → ℕ → MetaFault → Type 0
ParametersFault text table type_id fault =
    ParameterFault text table 0 (parameters_of type_id).first fault
    ⊎ ParameterFault text table 1 (parameters_of type_id).second fault
    ⊎ ParameterFault text table 2 (parameters_of type_id).third fault
    ⊎ TimezoneFault text table (has_timezone type_id) fault

-- the type of this number has no such parameters as those that are shown
pub record HasWrongParameters (text : List ℕ) (table type_id : ℕ) : Type 0 where
  pub a : ℕ
  pub b : ℕ
  pub c : ℕ
  pub numbers : ShowsParameters text table type_id a b c
  pub wrong : data_type_from type_id a b c None ≡ None

-- the type of this number is not carried, or is a decimal of another width
abbrev pub IsUnsupported : List ℕ → ℕ → ℕ → Type 0
IsUnsupported text table type_id = (is_carried type_id ≡ false)
    ⊎ ((is_decimal type_id ≡ true) × HasWrongParameters text table type_id)

-- what is wrong with the type itself
abbrev pub TypeFault : List ℕ → ℕ → ℕ → MetaFault → Type 0
TypeFault text table type_id (Unsupported told) = (told ≡ type_id) × IsUnsupported text table type_id
TypeFault text table type_id BadHeader = (is_carried type_id ≡ true) × (is_decimal type_id ≡ false)
    × HasWrongParameters text table type_id
TypeFault text table type_id OutOfBounds = ⊥
TypeFault text table type_id Version = ⊥
TypeFault text table type_id Endianness = ⊥
TypeFault text table type_id Dictionary = ⊥
TypeFault text table type_id TooDeep = ⊥
TypeFault text table type_id TooManyFields = ⊥
TypeFault text table type_id NotUtf8 = ⊥
TypeFault text table type_id OutOfMemory = ⊥

-- the number of the type, its parameters, or what they say
abbrev pub DataTypeFault : List ℕ → ℕ → MetaFault → Type 0
DataTypeFault text table fault =
    SlotNumberFault text table 2 1 fault
    ⊎ ((type_id : ℕ) × ShowsNumber text table 2 1 0 type_id
    × (ParametersFault text table type_id fault ⊎ TypeFault text table type_id fault))

-- the field's type has another number of fields inside it
pub record HasWrongChildren (text : List ℕ) (table : ℕ) : Type 0 where
  pub type_id : ℕ
  pub data_type : DataType
  pub children : VectorRef
  pub type_id_shown : ShowsNumber text table 2 1 0 type_id
  pub data_type_shown : ShowsDataType text table type_id data_type
  pub children_shown : ShowsVectorRef text table 5 4 children
  pub wrong : ¬ AllowsChildren data_type children.count

-- the field is of the values of a dictionary
abbrev pub RefersToDictionary : List ℕ → ℕ → Type 0
RefersToDictionary text table = (place : ℕ) × ShowsField text table 4 (Some place)

-- what is wrong with the field alone
abbrev pub OwnFault : List ℕ → ℕ → MetaFault → Type 0
OwnFault text table BadHeader = HasWrongChildren text table
OwnFault text table Dictionary = RefersToDictionary text table
OwnFault text table OutOfBounds = ⊥
OwnFault text table Version = ⊥
OwnFault text table Endianness = ⊥
OwnFault text table (Unsupported type_id) = ⊥
OwnFault text table TooDeep = ⊥
OwnFault text table TooManyFields = ⊥
OwnFault text table NotUtf8 = ⊥
OwnFault text table OutOfMemory = ⊥

-- a part of the field, but for the fields inside it
abbrev pub FieldFault : List ℕ → ℕ → MetaFault → Type 0
FieldFault text table fault =
    StringFault text table 0 fault
    ⊎ SlotNumberFault text table 1 1 fault
    ⊎ DataTypeFault text table fault
    ⊎ FieldSlotFault text table 4 fault
    ⊎ VectorRefFault text table 5 4 fault
    ⊎ MetadataFault text table 6 fault
    ⊎ OwnFault text table fault

-- ---- fields inside one another

-- the reference at place i of the vector names this table
abbrev pub IsElement : List ℕ → VectorRef → ℕ → Type 0
IsElement text vector table = (i : ℕ) × (i < vector.count) × ShowsReference text (vector.first + 4 * i) table

-- the second table is that of a field inside the first one's
abbrev pub IsChild : List ℕ → ℕ → ℕ → Type 0
IsChild text table child = (vector : VectorRef) × ShowsVectorRef text table 5 4 vector × IsElement text vector child

-- something stands so many levels below a table
abbrev pub HasFieldAtDepth : List ℕ → ℕ → ℕ → (ℕ → Type 0) → Type 0
HasFieldAtDepth text zero table Stands = Stands table
HasFieldAtDepth text (suc levels) table Stands = (child : ℕ) × IsChild text table child
    × HasFieldAtDepth text levels child Stands

-- Of the fields whose references these are, where so many levels may be read: one of them or one inside it has a fault,
-- or one stands below the last level.
abbrev pub ForestFault : List ℕ → ℕ → VectorRef → MetaFault → Type 0
ForestFault text levels vector fault =
    (table level : ℕ)
    × IsElement text vector table
    × (((level < levels) × HasFieldAtDepth text level table (λ field. FieldFault text field fault))
    ⊎ ((fault ≡ TooDeep) × HasFieldAtDepth text levels table (λ field. Unit {0})))

-- ---- the schema

-- some of the fields and of the metadata are more than a schema may say
pub record ExceedsLimits (text : List ℕ) (table : ℕ) : Type 0 where
  pub fields : VectorRef
  pub fields_shown : ShowsVectorRef text table 1 4 fields
  pub part : Forest
  pub part_of_fields : width part ≤ fields.count
  pub part_shown : ShowsForestPart text fields.first part
  pub metadata : VectorRef
  pub metadata_shown : ShowsVectorRef text table 2 4 metadata
  pub entries : List Entry
  pub some_entries : length entries ≤ metadata.count
  pub entries_shown : ShowsEntries text metadata.first entries
  pub beyond : IsBeyond (add_totals (forest_totals part) (entries_totals entries))

-- what is wrong with the schema alone
abbrev pub SchemaOwnFault : List ℕ → ℕ → MetaFault → Type 0
SchemaOwnFault text table Endianness = (order : ℕ) × ShowsNumber text table 0 2 0 order × (order ≢ 0)
SchemaOwnFault text table TooManyFields = ExceedsLimits text table
SchemaOwnFault text table OutOfBounds = ⊥
SchemaOwnFault text table Version = ⊥
SchemaOwnFault text table (Unsupported type_id) = ⊥
SchemaOwnFault text table Dictionary = ⊥
SchemaOwnFault text table TooDeep = ⊥
SchemaOwnFault text table NotUtf8 = ⊥
SchemaOwnFault text table BadHeader = ⊥
SchemaOwnFault text table OutOfMemory = ⊥

abbrev pub SchemaFault : List ℕ → ℕ → MetaFault → Type 0
SchemaFault text table fault =
    SlotNumberFault text table 0 2 fault
    ⊎ VectorRefFault text table 1 4 fault
    ⊎ ((vector : VectorRef) × ShowsVectorRef text table 1 4 vector × ForestFault text depth_limit vector fault)
    ⊎ MetadataFault text table 2 fault
    ⊎ SchemaOwnFault text table fault

-- ---- batches and messages

abbrev pub BatchFault : List ℕ → ℕ → MetaFault → Type 0
BatchFault text table fault =
    SlotNumberFault text table 0 8 fault
    ⊎ VectorRefFault text table 1 16 fault
    ⊎ VectorRefFault text table 2 16 fault
    ⊎ FieldSlotFault text table 3 fault

-- a header of a type that is not carried
abbrev pub IsOtherType : ℕ → Type 0
IsOtherType type = (type ≢ schema_type) × (type ≢ dictionary_type) × (type ≢ batch_type)

-- what is wrong with the message alone
abbrev pub MessageOwnFault : List ℕ → ℕ → MetaFault → Type 0
MessageOwnFault text message Version = (version : ℕ) × ShowsNumber text message 0 2 0 version × (version ≢ version_5)
MessageOwnFault text message Dictionary = ShowsNumber text message 1 1 0 dictionary_type
MessageOwnFault text message BadHeader =
    ShowsReferenceField text message 2 None ⊎ ((type : ℕ) × ShowsNumber text message 1 1 0 type × IsOtherType type)
MessageOwnFault text message OutOfBounds = ⊥
MessageOwnFault text message Endianness = ⊥
MessageOwnFault text message (Unsupported type_id) = ⊥
MessageOwnFault text message TooDeep = ⊥
MessageOwnFault text message TooManyFields = ⊥
MessageOwnFault text message NotUtf8 = ⊥
MessageOwnFault text message OutOfMemory = ⊥

abbrev pub MessageFault : List ℕ → ℕ → MetaFault → Type 0
MessageFault text message fault =
    SlotNumberFault text message 0 2 fault
    ⊎ SlotNumberFault text message 1 1 fault
    ⊎ ReferenceFault text message 2 fault
    ⊎ MessageOwnFault text message fault

-- the fault stands in the text
abbrev pub HeaderFault : List ℕ → MetaFault → Type 0
HeaderFault text fault =
    FromPlaceFault (NumberFault text 0 4) fault
    ⊎ ((message : ℕ) × ShowsReference text 0 message × MessageFault text message fault)
    ⊎ ((message table : ℕ) × ShowsMessage text message schema_type table × SchemaFault text table fault)
    ⊎ ((message table : ℕ)
    × ShowsMessage text message batch_type table
    × (BatchFault text table fault ⊎ SlotNumberFault text message 3 8 fault))
