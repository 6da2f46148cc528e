-- What stands in the values of JSON (RFC 8259) that a file is made of: whole numbers, the members of an object, and the words of
-- an array.
use Rattle.std.specs.Prelude.{ℕ, List, ◌∷◌, Option, option_and_then}
use Rattle.serde_json.specs.Data.{Data, unsigned, number, string, Items}
use Rattle.serde_json.specs.Find.{get, as_number, as_u64, as_str, as_array}
use Rattle.serde_json.specs.View.{items_of}

-- a whole number of 64 bits, as a value of JSON
abbrev pub whole : ℕ → Data
whole n = number (unsigned n)

-- the items of an array that tells of a node: a word, the node's number, and what stands behind it
abbrev pub words : List ℕ → ℕ → List Data → Items
words word node rest = items_of (string word ∷ whole node ∷ rest)

-- the whole number at a name of an object, the text, and the items of the array there
abbrev pub number_at : List ℕ → Data → Option ℕ
number_at name d = option_and_then as_u64 (option_and_then as_number (get name d))

abbrev pub text_at : List ℕ → Data → Option (List ℕ)
text_at name d = option_and_then as_str (get name d)

abbrev pub array_at : List ℕ → Data → Option Items
array_at name d = option_and_then as_array (get name d)
