-- What a field of a table holds: FlatBuffers, "FlatBuffer Internals", "Tables". An absent number is its default
-- ("Schema", "Tables": "Default values"), and an absent text or vector is told apart from an empty one.
use Rattle.std.specs.Prelude.{◌≡◌, ◌⊎◌, ℕ, List, Option, Some, None}
use Rattle.flat_places.specs.declared.fault.PlaceFault.{PlaceFault}
use Rattle.flat_places.specs.declared.fault.PlaceFault.TheVariants as place
use Rattle.flat_places.specs.Number.{ShowsUint, ShowsReference}
use Rattle.flat_places.specs.Table.{ShowsField}
use Rattle.flat_places.specs.Vector.{ShowsVector, ShowsText}
use Rattle.flat_places.specs.Fault.{NumberFault, VectorFault, TextFault, SlotFault}
use Rattle.header_types.specs.declared.fault.MetaFault.{MetaFault}
use Rattle.header_types.specs.declared.fault.MetaFault.TheVariants as meta
use Rattle.header_types.specs.Fields.{Text}

-- ---- what is shown

-- at an absent field, the default; else the number of so many bytes
abbrev pub NumberAt : List ℕ → ℕ → ℕ → ℕ → Option ℕ → Type 0
NumberAt text size default x None = x ≡ default
NumberAt text size default x (Some place) = ShowsUint text place size x

-- field n of the table is this number
pub record ShowsNumber (text : List ℕ) (table n size default x : ℕ) : Type 0 where
  pub field : Option ℕ
  pub found : ShowsField text table n field
  pub number : NumberAt text size default x field

-- at an absent field, nothing; else a reference to the target
abbrev pub ReferenceAt : List ℕ → Option ℕ → Option ℕ → Type 0
ReferenceAt text None None = Unit {0}
ReferenceAt text None (Some place) = ⊥
ReferenceAt text (Some target) None = ⊥
ReferenceAt text (Some target) (Some place) = ShowsReference text place target

-- field n of the table refers to this place, or is absent
pub record ShowsReferenceField (text : List ℕ) (table n : ℕ) (target : Option ℕ) : Type 0 where
  pub field : Option ℕ
  pub found : ShowsField text table n field
  pub refers : ReferenceAt text target field

abbrev pub StringAt : List ℕ → Option Text → Option ℕ → Type 0
StringAt text None None = Unit {0}
StringAt text None (Some place) = ⊥
StringAt text (Some bytes) None = ⊥
StringAt text (Some bytes) (Some place) = ShowsText text place bytes

-- field n of the table is this text, or is absent
pub record ShowsString (text : List ℕ) (table n : ℕ) (bytes : Option Text) : Type 0 where
  pub target : Option ℕ
  pub referred : ShowsReferenceField text table n target
  pub shown : StringAt text bytes target

-- the elements of a vector: where the first one stands, and how many there are
pub record VectorRef : Type 0 where
  pub first : ℕ
  pub count : ℕ

abbrev pub no_vector : VectorRef
no_vector = record { first = 0; count = 0 }

abbrev pub VectorAt : List ℕ → ℕ → VectorRef → Option ℕ → Type 0
VectorAt text size vector None = vector ≡ no_vector
VectorAt text size vector (Some place) = ShowsVector text place size vector.first vector.count

-- field n of the table is this vector of elements of so many bytes; an absent one has none
pub record ShowsVectorRef (text : List ℕ) (table n size : ℕ) (vector : VectorRef) : Type 0 where
  pub target : Option ℕ
  pub referred : ShowsReferenceField text table n target
  pub shown : VectorAt text size vector target

-- ---- what is wrong

-- the fault of a place, as one of a header
abbrev pub FromPlaceFault : (PlaceFault → Type 0) → MetaFault → Type 0
FromPlaceFault Stands meta.OutOfBounds = Stands place.OutOfBounds
FromPlaceFault Stands meta.NotUtf8 = Stands place.NotUtf8
FromPlaceFault Stands meta.BadHeader = Stands place.SmallVtable
FromPlaceFault Stands meta.Version = ⊥
FromPlaceFault Stands meta.Endianness = ⊥
FromPlaceFault Stands (meta.Unsupported type_id) = ⊥
FromPlaceFault Stands meta.Dictionary = ⊥
FromPlaceFault Stands meta.TooDeep = ⊥
FromPlaceFault Stands meta.TooManyFields = ⊥
FromPlaceFault Stands meta.OutOfMemory = ⊥

abbrev pub FieldSlotFault : List ℕ → ℕ → ℕ → MetaFault → Type 0
FieldSlotFault text table n = FromPlaceFault (SlotFault text table n)

-- the slot of a number, or the number
abbrev pub SlotNumberFault : List ℕ → ℕ → ℕ → ℕ → MetaFault → Type 0
SlotNumberFault text table n size fault =
    FieldSlotFault text table n fault
    ⊎ ((place : ℕ) × ShowsField text table n (Some place) × FromPlaceFault (NumberFault text place size) fault)

-- the slot of a reference, or the reference
abbrev pub ReferenceFault : List ℕ → ℕ → ℕ → MetaFault → Type 0
ReferenceFault text table n = SlotNumberFault text table n 4

-- the way to a text, or the text
abbrev pub StringFault : List ℕ → ℕ → ℕ → MetaFault → Type 0
StringFault text table n fault =
    ReferenceFault text table n fault
    ⊎ ((target : ℕ) × ShowsReferenceField text table n (Some target) × FromPlaceFault (TextFault text target) fault)

-- the way to a vector, or the vector
abbrev pub VectorRefFault : List ℕ → ℕ → ℕ → ℕ → MetaFault → Type 0
VectorRefFault text table n size fault =
    ReferenceFault text table n fault
    ⊎ ((target : ℕ) × ShowsReferenceField text table n (Some target)
    × FromPlaceFault (VectorFault text target size) fault)
