-- What a text shows as the header of a message: Apache Arrow, "Message.fbs" and "Schema.fbs", in FlatBuffers' binary
-- format. It is about the text alone: places, and what stands at them. Fields of a table are named by their numbers,
-- from 0. The vtable's second size, the bytes between objects, those behind the last one and the zero byte behind a
-- string are not spoken of.
use Rattle.std.specs.Prelude.{◌≡◌, ◌≤◌, ℕ, ◌+◌, Bool, true, false, not, ◌==◌, List, [], ◌∷◌, length, Option, Some, None}
use Rattle.std.specs.Prelude.{unwrap_or}
use Rattle.flat_places.specs.Number.{ShowsReference}
use Rattle.flat_places.specs.Table.{ShowsField}
use Rattle.header_types.specs.Fields.{Text, Entry, DataType, FieldHead, Tree, tree, Forest, no_more, more, width}
use Rattle.header_types.specs.Slots.{ShowsNumber, ShowsReferenceField, ShowsString, VectorRef, ShowsVectorRef}
use Rattle.header_types.specs.TypeIds.{Parameter, parameters_of, has_timezone, data_type_from, AllowsChildren}

-- ---- metadata

-- an absent text is an empty one
abbrev pub or_empty : Option Text → Text
or_empty bytes = unwrap_or bytes []

-- the table `KeyValue`: 0 key, 1 value
pub record ShowsEntry (text : List ℕ) (table : ℕ) (entry : Entry) : Type 0 where
  pub key : Option Text
  pub value : Option Text
  pub key_shown : ShowsString text table 0 key
  pub value_shown : ShowsString text table 1 value
  pub both : entry ≡ (or_empty key, or_empty value)

-- from the place on stand references to these entries
abbrev pub ShowsEntries : List ℕ → ℕ → List Entry → Type 0
ShowsEntries text place [] = Unit {0}
ShowsEntries text place (entry ∷ rest) =
    ((table : ℕ) × ShowsReference text place table × ShowsEntry text table entry) × ShowsEntries text (place + 4) rest

-- ---- a field

-- a parameter of the type's table, which is field 3 of `Field`; an absent table has the defaults
abbrev pub ParameterAt : List ℕ → ℕ → Parameter → ℕ → Option ℕ → Type 0
ParameterAt text n p x None = x ≡ p.default
ParameterAt text n p x (Some type) = ShowsNumber text type n p.size p.default x

abbrev pub ShowsParameter : List ℕ → ℕ → ℕ → Option Parameter → ℕ → Type 0
ShowsParameter text table n None x = x ≡ 0
ShowsParameter text table n (Some p) x = (type : Option ℕ) × ShowsReferenceField text table 3 type
    × ParameterAt text n p x type

-- the time zone, field 1 of the type's table
abbrev pub TimezoneAt : List ℕ → Option Text → Option ℕ → Type 0
TimezoneAt text timezone None = timezone ≡ None
TimezoneAt text timezone (Some type) = ShowsString text type 1 timezone

abbrev pub ShowsTimezone : List ℕ → ℕ → Bool → Option Text → Type 0
ShowsTimezone text table false timezone = timezone ≡ None
ShowsTimezone text table true timezone = (type : Option ℕ) × ShowsReferenceField text table 3 type
    × TimezoneAt text timezone type

-- the numbers in the type's table that the type of this number has
pub record ShowsParameters (text : List ℕ) (table type_id a b c : ℕ) : Type 0 where
  pub first : ShowsParameter text table 0 (parameters_of type_id).first a
  pub second : ShowsParameter text table 1 (parameters_of type_id).second b
  pub third : ShowsParameter text table 2 (parameters_of type_id).third c

-- the type of the field whose table this is
pub record ShowsDataType (text : List ℕ) (table type_id : ℕ) (data_type : DataType) : Type 0 where
  pub a : ℕ
  pub b : ℕ
  pub c : ℕ
  pub timezone : Option Text
  pub numbers : ShowsParameters text table type_id a b c
  pub zone : ShowsTimezone text table (has_timezone type_id) timezone
  pub means : data_type_from type_id a b c timezone ≡ Some data_type

-- The table `Field`: 0 name, 1 nullable, 2 the type's number, 3 the type's table, 4 dictionary, 5 children, 6
-- custom_metadata. Two vectors of references, each of four bytes, go on from here.
pub record ShowsFieldHead (text : List ℕ) (table : ℕ) (field : FieldHead) (children metadata : VectorRef) : Type 0 where
  pub name : Option Text
  pub nullable : ℕ
  pub type_id : ℕ
  pub name_shown : ShowsString text table 0 name
  pub named : field.name ≡ or_empty name
  pub nullable_shown : ShowsNumber text table 1 1 0 nullable
  pub may_be_null : field.nullable ≡ not (nullable == 0)
  pub type_id_shown : ShowsNumber text table 2 1 0 type_id
  pub data_type_shown : ShowsDataType text table type_id field.data_type
  pub no_dictionary : ShowsField text table 4 None
  pub children_shown : ShowsVectorRef text table 5 4 children
  pub allowed : AllowsChildren field.data_type children.count
  pub metadata_shown : ShowsVectorRef text table 6 4 metadata

-- ---- trees

-- The table shows a field, its metadata and the fields inside it, where `Fits` says how many of a vector's elements are
-- told of: all of them, or some from the first on.
abbrev mutual
  pub ShowsTreeBy : (ℕ → ℕ → Type 0) → List ℕ → ℕ → Tree → Type 0
  ShowsTreeBy Fits text table (tree field entries inner) =
      (children metadata : VectorRef)
      × ShowsFieldHead text table field children metadata
      × Fits (length entries) metadata.count
      × ShowsEntries text metadata.first entries
      × Fits (width inner) children.count
      × ShowsForestBy Fits text children.first inner

  -- from the place on stand references to the trees
  pub ShowsForestBy : (ℕ → ℕ → Type 0) → List ℕ → ℕ → Forest → Type 0
  ShowsForestBy Fits text place no_more = Unit {0}
  ShowsForestBy Fits text place (more t rest) =
      ((table : ℕ) × ShowsReference text place table × ShowsTreeBy Fits text table t)
      × ShowsForestBy Fits text (place + 4) rest

-- all of the tree
abbrev pub ShowsTree : List ℕ → ℕ → Tree → Type 0
ShowsTree = ShowsTreeBy (λ told count. told ≡ count)

abbrev pub ShowsForest : List ℕ → ℕ → Forest → Type 0
ShowsForest = ShowsForestBy (λ told count. told ≡ count)

-- some of it
abbrev pub ShowsPart : List ℕ → ℕ → Tree → Type 0
ShowsPart = ShowsTreeBy (λ told count. told ≤ count)

abbrev pub ShowsForestPart : List ℕ → ℕ → Forest → Type 0
ShowsForestPart = ShowsForestBy (λ told count. told ≤ count)
