-- When words tell no schema, by the fault (this service's own).
use Rattle.std.specs.Prelude.{◌≡◌, ◌<◌, ⊤, ℕ, suc, List, [], ◌∷◌, ◌++◌, length, get_or}
use Rattle.std.specs.List.{slice_split}
use Rattle.header_types.specs.declared.schema.Field.{Field}
use Rattle.header_types.specs.Fields.{Text, FieldHead, tree, no_more}
use Rattle.header_types.specs.Views.{tree_of}
use Rattle.schema_words.specs.declared.fault.SchemaWordsFault.{SchemaWordsFault}
use Rattle.schema_words.specs.declared.fault.SchemaWordsFault.TheVariants.{BadField, OutOfMemory}
use Rattle.schema_words.specs.Spelling.{is_comma, SpellsField}

-- the fault names the place of this part, from 1 on, which is no field; want of memory says nothing of it
abbrev pub TellsNoField : Text → ℕ → SchemaWordsFault → Type 0
TellsNoField part place (BadField number) = (number ≡ suc place) × ((head : FieldHead) → SpellsField part head → ⊥)
TellsNoField part place OutOfMemory = ⊤

-- the fault names one of the parts, which is no field
pub record TellsNoSchema (words : Text) (fault : SchemaWordsFault) : Type 0 where
  pub place : ℕ
  pub within : place < length (slice_split is_comma words)
  pub no_field : TellsNoField (get_or (slice_split is_comma words) place []) place fault

-- one field more, which this part tells
pub record PushesField (part : Text) (old new : List Field) : Type 0 where
  pub field : Field
  pub head : FieldHead
  pub spells : SpellsField part head
  pub seen : tree_of field ≡ tree head [] no_more
  pub pushed : new ≡ old ++ field ∷ []
