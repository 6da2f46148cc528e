-- Which value of JSON tells which cell of a field: RFC 8259, section 3, and Apache Arrow, "Arrow Columnar Format", "Data
-- types". Bytes are hexadecimal (RFC 4648, section 8, in either case).
use Rattle.std.specs.Prelude.{◌≡◌, ◌⊎◌, ℕ, Bool, true, List, [], ◌∷◌, length, map, Some, unwrap_or, Ok, IsUtf8}
use Rattle.std.specs.List.{AllZip}
use Rattle.serde_json.specs.Data.{Data, null, boolean, string, array, Members, no_members, member}
use Rattle.serde_json.specs.Find.{get, as_object}
use Rattle.serde_json.specs.View.{items_of}
use Rattle.hex.specs.Hex.{decode_of}
use Rattle.header_types.specs.declared.schema.Field.{Field}
use Rattle.header_types.specs.Views.{tree_of, forest_of}
use Rattle.header_types.specs.Fields.{FieldHead, Tree, tree, Forest, no_more, more}
use Rattle.batch_types.specs.Cells.{Cell, null_cell, bit_cell, bytes_cell, list_cell, tuple_cell, cells_of}
use Rattle.json_rows.specs.declared.form.Form.{Form}
use Rattle.json_rows.specs.declared.form.Form.TheVariants as form
use Rattle.json_rows.specs.Forms.{form_of}
use Rattle.json_rows.specs.Numbers.{TellsWhole, TellsSingle, TellsDouble}

-- ---- values with nothing inside them

pub record TellsBool (d : Data) (cell : Cell) : Type 0 where
  pub bit : Bool
  pub told : d ≡ boolean bit
  pub cell_is : cell ≡ bit_cell bit

-- a text in UTF-8
pub record TellsText (d : Data) (bytes : List ℕ) : Type 0 where
  pub told : d ≡ string bytes
  pub utf8 : IsUtf8 bytes

pub record TellsBytes (d : Data) (bytes : List ℕ) : Type 0 where
  pub digits : List ℕ
  pub told : d ≡ string digits
  pub decoded : decode_of digits ≡ Ok bytes

-- what is told are bytes, of which this is the cell
abbrev pub IsBytesCell : (List ℕ → Type 0) → Cell → Type 0
IsBytesCell Told cell = (bytes : List ℕ) × Told bytes × (cell ≡ bytes_cell bytes)

-- the value tells the cell in a form that has nothing inside it
abbrev pub TellsFlat : Form → Data → Cell → Type 0
TellsFlat form.Null d cell = ⊥
TellsFlat form.Bool d cell = TellsBool d cell
TellsFlat (form.Whole width signed) d cell = IsBytesCell (TellsWhole width signed d) cell
TellsFlat form.Single d cell = IsBytesCell (TellsSingle d) cell
TellsFlat form.Double d cell = IsBytesCell (TellsDouble d) cell
TellsFlat form.Text d cell = IsBytesCell (TellsText d) cell
TellsFlat form.Bytes d cell = IsBytesCell (TellsBytes d) cell
TellsFlat (form.SizedBytes size) d cell = IsBytesCell (λ bytes. TellsBytes d bytes × (length bytes ≡ size)) cell
TellsFlat form.List d cell = ⊥
TellsFlat (form.SizedList size) d cell = ⊥
TellsFlat form.Struct d cell = ⊥
TellsFlat form.Unsupported d cell = ⊥

-- ---- values with others inside them

-- an array, whose values tell these cells
pub record TellsElements (Element : Data → Cell → Type 0) (d : Data) (cells : List Cell) : Type 0 where
  pub values : List Data
  pub told : d ≡ array (items_of values)
  pub each : AllZip Element values cells

-- the name of a field
abbrev pub name_of : Tree → List ℕ
name_of (tree field entries inside) = field.name

-- a field has this name
abbrev pub IsNameOf : Forest → List ℕ → Type 0
IsNameOf no_more name = ⊥
IsNameOf (more t rest) name = (name ≡ name_of t) ⊎ IsNameOf rest name

-- each member has the name of a field
abbrev pub AreNamesOf : Forest → Members → Type 0
AreNamesOf fields no_members = Unit {0}
AreNamesOf fields (member name d rest) = IsNameOf fields name × AreNamesOf fields rest

-- the value at a name of an object; a member that is not there tells a null
abbrev pub told_at : List ℕ → Data → Data
told_at name d = unwrap_or (get name d) null

-- in each form, with what its elements and its members have to tell
abbrev pub TellsForm : Form → (Data → Cell → Type 0) → (Data → List Cell → Type 0) → Data → Cell → Type 0
TellsForm form.Null Element Fields d cell = ⊥
TellsForm form.Bool Element Fields d cell = TellsFlat form.Bool d cell
TellsForm (form.Whole width signed) Element Fields d cell = TellsFlat (form.Whole width signed) d cell
TellsForm form.Single Element Fields d cell = TellsFlat form.Single d cell
TellsForm form.Double Element Fields d cell = TellsFlat form.Double d cell
TellsForm form.Text Element Fields d cell = TellsFlat form.Text d cell
TellsForm form.Bytes Element Fields d cell = TellsFlat form.Bytes d cell
TellsForm (form.SizedBytes size) Element Fields d cell = TellsFlat (form.SizedBytes size) d cell
TellsForm form.List Element Fields d cell =
    (cells : List Cell) × TellsElements Element d cells × (cell ≡ list_cell (cells_of cells))
TellsForm (form.SizedList size) Element Fields d cell =
    (cells : List Cell) × TellsElements Element d cells × (length cells ≡ size) × (cell ≡ list_cell (cells_of cells))
TellsForm form.Struct Element Fields d cell = (cells : List Cell) × Fields d cells × (cell ≡ tuple_cell (cells_of cells))
TellsForm form.Unsupported Element Fields d cell = ⊥

-- ---- fields

-- a null, where the field may have one
pub record TellsNull (field : FieldHead) (d : Data) (cell : Cell) : Type 0 where
  pub nullable : field.nullable ≡ true
  pub told : d ≡ null
  pub cell_is : cell ≡ null_cell

-- the value is an object, each of whose members has the name of a field
pub record IsObjectOf (fields : Forest) (d : Data) : Type 0 where
  pub members : Members
  pub told : as_object d ≡ Some members
  pub named : AreNamesOf fields members

abbrev mutual
  -- the value tells the cell of the field
  pub TellsCell : Tree → Data → Cell → Type 0
  TellsCell (tree field entries inside) d cell =
      TellsNull field d cell
      ⊎ TellsForm (form_of field.data_type) (TellsElement inside)
      (λ value cells. IsObjectOf inside value × TellsMembers inside value cells) d cell

  -- of the first of the fields inside, the only one inside a list
  pub TellsElement : Forest → Data → Cell → Type 0
  TellsElement no_more d cell = ⊥
  TellsElement (more t rest) d cell = TellsCell t d cell

  -- the value tells one cell of each of the fields
  pub TellsMembers : Forest → Data → List Cell → Type 0
  TellsMembers no_more d [] = Unit {0}
  TellsMembers no_more d (cell ∷ cells) = ⊥
  TellsMembers (more t rest) d [] = ⊥
  TellsMembers (more t rest) d (cell ∷ cells) = TellsCell t (told_at (name_of t) d) cell × TellsMembers rest d cells

-- the value is an object that tells one cell of each of the fields, and has no other member
abbrev pub TellsFields : Forest → Data → List Cell → Type 0
TellsFields fields d cells = IsObjectOf fields d × TellsMembers fields d cells

-- the program's fields
abbrev pub forest_in : List Field → Forest
forest_in fields = forest_of (map tree_of fields)
