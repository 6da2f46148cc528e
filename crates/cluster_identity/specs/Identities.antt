-- What a text means that says what a cluster is: JSON (RFC 8259) whose numbers are whole, and bytes in hexadecimal
-- digits (RFC 4648, section 8, in lower case). What such a text has to say is this service's own.
use Rattle.std.specs.Prelude.{◌≡◌, ℕ, ◌==◌, ◌||◌, Bool, IsTrue, List, length, codes, Option}
use Rattle.std.specs.Prelude.{Some, option_and_then, IsUtf8}
use Rattle.std.specs.List.{AllZip}
use Rattle.serde_json.specs.Data.{Data, Items}
use Rattle.serde_json.specs.Read.{read as read_text}
use Rattle.serde_json.specs.Find.{get, as_number, as_u64, as_str, as_array}
use Rattle.serde_json.specs.View.{items_of}
use Rattle.hex.specs.Hex.{encode_lower, IsBytes}
use Rattle.cluster_identity.specs.declared.file_mark.FileMark.{FileMark}

-- a cluster has three nodes or five
abbrev pub is_node_count : ℕ → Bool
is_node_count n = (n == 3) || (n == 5)

-- ---- what an object has at a name

-- a whole number of 64 bits, a text, and the items of an array
abbrev pub number_at : List ℕ → Data → Option ℕ
number_at name d = option_and_then as_u64 (option_and_then as_number (get name d))

abbrev pub text_at : List ℕ → Data → Option (List ℕ)
text_at name d = option_and_then as_str (get name d)

abbrev pub array_at : List ℕ → Data → Option Items
array_at name d = option_and_then as_array (get name d)

-- These are bytes, so many.
pub record AreBytes (count : ℕ) (bytes : List ℕ) : Type 0 where
  pub whole : length bytes ≡ count
  pub each : IsBytes bytes

-- The digits spell these bytes, so many.
pub record Spells (digits : List ℕ) (count : ℕ) (bytes : List ℕ) : Type 0 where
  pub spelled : digits ≡ encode_lower bytes
  pub are_bytes : AreBytes count bytes

-- The text at a name spells them.
pub record HasBytes (d : Data) (name : List ℕ) (count : ℕ) (bytes : List ℕ) : Type 0 where
  pub digits : List ℕ
  pub digits_at : text_at name d ≡ Some digits
  pub spells : Spells digits count bytes

-- ---- what is told

-- The value is an object that tells the mark of a file; what else it has means nothing.
pub record TellsMark (d : Data) (mark : FileMark) : Type 0 where
  pub sized : number_at (codes "length") d ≡ Some mark.length
  pub digested : HasBytes d (codes "sha256") 32 mark.digest

-- The value is an object that tells how many nodes there are, the cluster's name, and a mark for each node's file;
-- what else it has means nothing.
pub record TellsIdentity (d : Data) (members : ℕ) (id : List ℕ) (files : List FileMark) : Type 0 where
  pub counted : number_at (codes "members") d ≡ Some members
  pub three_or_five : IsTrue (is_node_count members)
  pub named : HasBytes d (codes "id") 16 id
  pub values : List Data
  pub values_at : array_at (codes "files") d ≡ Some (items_of values)
  pub marked : AllZip TellsMark values files
  pub one_each : length files ≡ members

-- The text is such an object.
pub record MeansIdentity (text : List ℕ) (members : ℕ) (id : List ℕ) (files : List FileMark) : Type 0 where
  pub is_text : IsUtf8 text
  pub value : Data
  pub read : read_text text ≡ Some value
  pub tells : TellsIdentity value members id files
