-- The text that is written of what a cluster is: JSON (RFC 8259) with no space and its members in this order, and a
-- line feed behind it.
use Rattle.std.specs.Prelude.{◌≡◌, ℕ, ◌<◌, ◌^◌, List, [], ◌∷◌, ◌++◌, length, codes, decimal, IsTrue}
use Rattle.std.specs.List.{AllByRecursion}
use Rattle.hex.specs.Hex.{encode_lower}
use Rattle.cluster_identity.specs.declared.file_mark.FileMark.{FileMark}
use Rattle.cluster_identity.specs.Identities.{AreBytes, is_node_count}

abbrev pub mark_text : FileMark → List ℕ
mark_text mark =
    codes "{\"length\":" ++ (decimal mark.length
    ++ (codes ",\"sha256\":\"" ++ (encode_lower mark.digest ++ codes "\"}")))

-- one after the other, with commas between them
abbrev pub marks_text : List FileMark → List ℕ
marks_text [] = []
marks_text (mark ∷ []) = mark_text mark
marks_text (mark ∷ next ∷ later) = mark_text mark ++ (codes "," ++ marks_text (next ∷ later))

abbrev pub identity_text : ℕ → List ℕ → List FileMark → List ℕ
identity_text members id files =
    codes "{\"members\":" ++ (decimal members ++ (codes ",\"id\":\"" ++ (encode_lower id
    ++ (codes "\",\"files\":[" ++ (marks_text files ++ codes "]}\n")))))

-- ---- what is written so

-- the mark of a file: its length is a number of 64 bits, and its digest has 32 bytes
pub record IsMark (mark : FileMark) : Type 0 where
  pub fits : mark.length < 2 ^ 64
  pub digest_is : AreBytes 32 mark.digest

-- what a cluster is: it has 3 or 5 nodes, a name of 16 bytes, and a mark for each node's file
pub record IsIdentity (members : ℕ) (id : List ℕ) (files : List FileMark) : Type 0 where
  pub three_or_five : IsTrue (is_node_count members)
  pub named : AreBytes 16 id
  pub marked : AllByRecursion IsMark files
  pub one_each : length files ≡ members
