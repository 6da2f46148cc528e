-- What is written of a cell: the tokens of JSON that reads as a value which tells it. RFC 8259, section 2.
use Rattle.std.specs.Prelude.{◌≡◌, ◌≤◌, ℕ, List, [], ◌∷◌, ◌++◌, Some}
use Rattle.json.specs.Token.{Token}
use Rattle.json.specs.Token as token
use Rattle.json.specs.Json as json
use Rattle.json.specs.Tree.{json_tokens, items_tokens, members_tokens, depth}
use Rattle.serde_json.specs.Data.{Data}
use Rattle.serde_json.specs.Read.{of_json}
use Rattle.header_types.specs.Fields.{Tree, tree, Forest, no_more, more}
use Rattle.header_types.specs.Limits.{tree_depth}
use Rattle.batch_types.specs.Cells.{Cell}
use Rattle.json_rows.specs.Cells.{TellsCell, IsNameOf, name_of}

-- the text reads as a value that is told so, nested no deeper than this
pub record ReadsAs (Told : Data → Type 0) (levels : ℕ) (text : json.Json) : Type 0 where
  pub value : Data
  pub reads : of_json text ≡ Some value
  pub shallow : depth text ≤ levels
  pub told : Told value

-- the new tokens are those of such a text
pub record WritesValue (Told : Data → Type 0) (levels : ℕ) (old new : List Token) : Type 0 where
  pub text : json.Json
  pub tokens : new ≡ old ++ json_tokens text
  pub reads : ReadsAs Told levels text

-- the tokens stand in front of the new ones
abbrev pub GoesOn : List Token → List Token → Type 0
GoesOn old new = (more : List Token) × (new ≡ old ++ more)

-- of such texts, one for each cell
abbrev pub ReadAsElements : (Data → Cell → Type 0) → ℕ → List Cell → json.Items → Type 0
ReadAsElements Element levels [] json.no_items = Unit {0}
ReadAsElements Element levels [] (json.item text texts) = ⊥
ReadAsElements Element levels (cell ∷ cells) json.no_items = ⊥
ReadAsElements Element levels (cell ∷ cells) (json.item text texts) =
    ReadsAs (λ d. Element d cell) levels text × ReadAsElements Element levels cells texts

-- of one for each field and its cell, under the field's name
abbrev pub ReadAsMembers : Forest → List Cell → json.Members → Type 0
ReadAsMembers no_more [] json.no_members = Unit {0}
ReadAsMembers no_more [] (json.member name text texts) = ⊥
ReadAsMembers no_more (cell ∷ cells) texts = ⊥
ReadAsMembers (more t rest) [] texts = ⊥
ReadAsMembers (more t rest) (cell ∷ cells) json.no_members = ⊥
ReadAsMembers (more t rest) (cell ∷ cells) (json.member name text texts) =
    (name ≡ name_of t) × ReadsAs (λ d. TellsCell t d cell) (tree_depth t) text × ReadAsMembers rest cells texts

-- ---- names that an object can tell apart

abbrev mutual
  -- no two fields side by side inside the field have one name
  pub HasOwnNames : Tree → Type 0
  HasOwnNames (tree field entries inside) = HaveOwnNames inside

  pub HaveOwnNames : Forest → Type 0
  HaveOwnNames no_more = Unit {0}
  HaveOwnNames (more t rest) = (IsNameOf rest (name_of t) → ⊥) × HasOwnNames t × HaveOwnNames rest

-- ---- for private clauses: what is written of several cells, up to the closing bracket

abbrev pub WritesElements : (Data → Cell → Type 0) → ℕ → List Cell → List Token → List Token → Type 0
WritesElements Element levels cells old new =
    (texts : json.Items) × (new ≡ old ++ items_tokens texts) × ReadAsElements Element levels cells texts

abbrev pub WritesMembers : Forest → List Cell → List Token → List Token → Type 0
WritesMembers fields cells old new =
    (texts : json.Members) × (new ≡ old ++ members_tokens texts) × ReadAsMembers fields cells texts

abbrev pub WritesMember : Tree → Cell → List Token → List Token → Type 0
WritesMember t cell old new =
    (text : json.Json) × (new ≡ old ++ token.key (name_of t) ∷ json_tokens text)
    × ReadsAs (λ d. TellsCell t d cell) (tree_depth t) text
