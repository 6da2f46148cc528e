-- What fields mean as a message: Protocol Buffers, "Encoding" ("Last One Wins", "Repeated Elements", "Submessages",
-- "Length Types") and "Language Guide (proto3)" ("Scalar Value Types", "Enumerations", "Unknown Fields"). A message is a descriptor
-- of the fields that it has; this is the one meaning that all descriptors share.
use Rattle.std.specs.Prelude.{◌≡◌, ◌≢◌, ℕ, ◌⊎◌, if◌then◌else◌, List, [], ◌∷◌, ◌++◌, Option, Some, None}
use Rattle.std.specs.List.{AllZip, flat_map}
use Rattle.proto_fields.specs.declared.fault.WireFault.{WireFault}
use Rattle.proto_fields.specs.declared.fault.WireFault.TheVariants.{BadWireType, OutOfMemory}
use Rattle.proto_fields.specs.Field.{Held, Field, wire_type, FieldsThen, IsFields, FieldsFault}
use Rattle.proto_fields.specs.Meaning.{bytes_in, all_hold, things_of, meant}
use Rattle.proto_fields.specs.Scalar.{ScalarType, TypeString, Scalar, default_of, scalar_in, ScalarFault}

-- ---- descriptors

-- The fields of a message, each with its number and its type, and the other fields behind it.
pub data Descriptor : Type 0 where
  NoMore : Descriptor
  One : ℕ → ScalarType → Descriptor → Descriptor
  Strings : ℕ → Descriptor → Descriptor
  Message : ℕ → Descriptor → Descriptor → Descriptor
  Messages : ℕ → Descriptor → Descriptor → Descriptor

-- what a message of the descriptor holds, field by field
abbrev pub Values : Descriptor → Type 0
Values NoMore = Unit {0}
Values (One number type others) = Scalar type × Values others
Values (Strings number others) = List (List ℕ) × Values others
Values (Message number inner others) = Option (Values inner) × Values others
Values (Messages number inner others) = List (Values inner) × Values others

-- ---- the meaning of fields

-- what all fields of this number hold, in order, where each holds such a thing
abbrev pub all_meant : {A : Type 0} → (Held → Option A) → ℕ → List Field → Option (List A)
all_meant thing number fields = if all_hold thing number fields then Some (things_of thing number fields) else None

-- the lists, one after the other
abbrev pub joined : {A : Type 0} → List (List A) → List A
joined lists = flat_map (λ list. list) lists

-- The texts of one embedded message are lists of fields, which mean it together, in order; without a text there is none.
abbrev pub Merge : {V : Type 0} → (List Field → V → Type 0) → List (List ℕ) → Option V → Type 0
Merge means all_embedded None = all_embedded ≡ []
Merge means all_embedded (Some value) = (all_embedded ≢ []) × ((lists : List (List Field)) × AllZip IsFields all_embedded lists × means (joined lists) value)

-- Each text is a list of fields that mean a message of their own.
abbrev pub EachMeans : {V : Type 0} → (List Field → V → Type 0) → List (List ℕ) → List V → Type 0
EachMeans means all_embedded values = AllZip (λ embedded value. (fields : List Field) × IsFields embedded fields × means fields value) all_embedded values

-- Fields mean what a message of the descriptor holds: the last value of a single field or its default, all strings of a repeated
-- one, an embedded message merged of all its texts, and repeated ones text by text. Other numbers are passed over.
abbrev pub Means : (descriptor : Descriptor) → List Field → Values descriptor → Type 0
Means NoMore fields values = Unit {0}
Means (One number type others) fields values =
    (meant (scalar_in type) (default_of type) number fields ≡ Some values.0) × Means others fields values.1
Means (Strings number others) fields values =
    (all_meant (scalar_in TypeString) number fields ≡ Some values.0) × Means others fields values.1
Means (Message number inner others) fields values =
    ((all_embedded : List (List ℕ)) × (all_meant bytes_in number fields ≡ Some all_embedded) × Merge (Means inner) all_embedded values.0)
    × Means others fields values.1
Means (Messages number inner others) fields values =
    ((all_embedded : List (List ℕ)) × (all_meant bytes_in number fields ≡ Some all_embedded) × EachMeans (Means inner) all_embedded values.0)
    × Means others fields values.1

-- the text is a list of fields that mean this
pub record IsMessage (descriptor : Descriptor) (text : List ℕ) (values : Values descriptor) : Type 0 where
  pub fields : List Field
  pub encodes : IsFields text fields
  pub means : Means descriptor fields values

-- ---- faults

-- After some fields what follows is no field, or one of the fields at the front is at fault.
abbrev pub TextFault : (WireFault → Field → Type 0) → WireFault → List ℕ → Type 0
TextFault IsAtFault fault text =
    FieldsFault fault text
    ⊎ ((before : List Field) × (f : Field) × (rest : List ℕ) × FieldsThen text (before ++ f ∷ []) rest × IsAtFault fault f)

-- what is wrong with the text of an embedded message
abbrev pub EmbeddedFault : (WireFault → Field → Type 0) → WireFault → Held → Type 0
EmbeddedFault IsAtFault fault held =
    ((fault ≡ BadWireType) × (wire_type held ≢ 2))
    ⊎ ((bytes : List ℕ) × (bytes_in held ≡ Some bytes) × TextFault IsAtFault fault bytes)

-- what is wrong with a field of a message of the descriptor, inside embedded messages too
abbrev pub FieldIsAtFault : Descriptor → WireFault → Field → Type 0
FieldIsAtFault NoMore fault f = ⊥
FieldIsAtFault (One number type others) fault f = ((f.number ≡ number) × ScalarFault type fault f.held) ⊎ FieldIsAtFault others fault f
FieldIsAtFault (Strings number others) fault f = ((f.number ≡ number) × ScalarFault TypeString fault f.held) ⊎ FieldIsAtFault others fault f
FieldIsAtFault (Message number inner others) fault f =
    ((f.number ≡ number) × EmbeddedFault (FieldIsAtFault inner) fault f.held) ⊎ FieldIsAtFault others fault f
FieldIsAtFault (Messages number inner others) fault f =
    ((f.number ≡ number) × EmbeddedFault (FieldIsAtFault inner) fault f.held) ⊎ FieldIsAtFault others fault f

-- the fault stands in a text that should be a message of the descriptor, or memory was refused
abbrev pub IsMessageFault : Descriptor → List ℕ → WireFault → Type 0
IsMessageFault descriptor text fault = (fault ≡ OutOfMemory) ⊎ TextFault (FieldIsAtFault descriptor) fault text

-- no fault stands in a text that should be a message of the descriptor
abbrev pub IsFaultless : Descriptor → List ℕ → Type 0
IsFaultless descriptor text = (fault : WireFault) → ¬ TextFault (FieldIsAtFault descriptor) fault text
