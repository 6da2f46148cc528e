-- The text that is written of an identity means it.
use Rattle.std.proofs.Common.{◌≡◌, ℕ, ◌<◌, ◌≤◌, ◌^◌, List, [], ◌∷◌, ◌++◌, length, map, Option, Some, decimal, IsTrue, refl, sym, ap, subst, ◌∙◌, append-nil, arith, String, Global, string_bytes}
use Rattle.std.specs.Prelude.{codes, option_and_then}
use Rattle.std.specs.List.{AllByRecursion, AllZip}
use Rattle.std.proofs.lemmas.Bool.Decides.{nat_tests}
use Rattle.json.specs.Token.{Token}
use Rattle.json.specs.Json as json
use Rattle.json.specs.Lex.{tokens}
use Rattle.json.specs.Tree as tree
use Rattle.json.proofs.Printed.Trees.{value-json_tokens}
use Rattle.hex.specs.Hex.{encode_lower}
use Rattle.serde_json.specs.Data.{Data, number, unsigned, string, object, array, no_members, put}
use Rattle.serde_json.specs.Read.{read as read_text, of_json, of_items, max_depth}
use Rattle.serde_json.specs.View.{items_of}
use Rattle.serde_json.proofs.Numbers.{number_of-decimal}
use Rattle.cluster_identity.specs.declared.file_mark.FileMark.{FileMark}
use Rattle.cluster_identity.specs.Identities.{TellsMark, TellsIdentity, MeansIdentity, is_node_count}
use Rattle.cluster_identity.specs.IdentityTexts.{identity_text, IsMark, IsIdentity}
use Rattle.cluster_identity.proofs.Lexing.{identity_tokens, marks_tokens, is_text, tokens_written}

-- ---- the JSON of the tokens

abbrev mark_json : FileMark → json.Json
mark_json mark =
    json.object (json.member (codes "length") (json.number (decimal mark.length)) (json.member (codes "sha256") (json.string (encode_lower mark.digest)) json.no_members))

abbrev marks_json : List FileMark → json.Items
marks_json [] = json.no_items
marks_json (mark ∷ later) = json.item (mark_json mark) (marks_json later)

abbrev identity_json : ℕ → List ℕ → List FileMark → json.Json
identity_json members id files =
    json.object (json.member (codes "members") (json.number (decimal members)) (json.member (codes "id") (json.string (encode_lower id))
    (json.member (codes "files") (json.array (marks_json files)) json.no_members)))

marks_match : (files : List FileMark) (rest : List Token) → marks_tokens files (Token.end_array ∷ rest) ≡ tree.items_tokens (marks_json files) ++ rest
marks_match [] rest = refl
marks_match (mark ∷ later) rest = ap (λ (ts : List Token). tree.json_tokens (mark_json mark) ++ ts) (marks_match later rest)

tokens_match : (members : ℕ) (id : List ℕ) (files : List FileMark) → identity_tokens members id files ≡ tree.json_tokens (identity_json members id files)
tokens_match members id files =
    ap (λ (ts : List Token). Token.begin_object ∷ Token.key (codes "members") ∷ Token.number (decimal members) ∷ Token.key (codes "id") ∷ Token.string (encode_lower id)
    ∷ Token.key (codes "files") ∷ Token.begin_array ∷ ts) (marks_match files (Token.end_object ∷ []))

marks_shallow : (files : List FileMark) → tree.items_depth (marks_json files) ≤ 1
marks_shallow [] = omega arith
marks_shallow (mark ∷ later) = let rest = marks_shallow later in omega (arith, rest)

shallow : (members : ℕ) (id : List ℕ) (files : List FileMark) → tree.depth (identity_json members id files) ≤ max_depth
shallow members id files = let marks = marks_shallow files in omega (arith, marks)

-- ---- and its data

abbrev mark_data : FileMark → Data
mark_data mark = object (put (codes "sha256") (string (encode_lower mark.digest)) (put (codes "length") (number (unsigned mark.length)) no_members))

abbrev identity_data : ℕ → List ℕ → List FileMark → Data
identity_data members id files =
    object (put (codes "files") (array (items_of (map mark_data files))) (put (codes "id") (string (encode_lower id)) (put (codes "members") (number (unsigned members)) no_members)))

mark_read : (mark : FileMark) → IsMark mark → of_json (mark_json mark) ≡ Some (mark_data mark)
mark_read mark is = rw (number_of-decimal mark.length is.fits)

marks_read : (files : List FileMark) → AllByRecursion IsMark files → of_items (marks_json files) ≡ Some (items_of (map mark_data files))
marks_read [] all = refl
marks_read (mark ∷ later) all = rw (mark_read mark all.0, marks_read later all.1)

identity_read : (members : ℕ) (id : List ℕ) (files : List FileMark) → members < 2 ^ 64 → AllByRecursion IsMark files
    → of_json (identity_json members id files) ≡ Some (identity_data members id files)
identity_read members id files fits all = rw (number_of-decimal members fits, marks_read files all)

-- ---- which tells the identity

mark_told : (mark : FileMark) → IsMark mark → TellsMark (mark_data mark) mark
mark_told mark is = record {
  sized = refl;
  digested = record { digits = encode_lower mark.digest; digits_at = refl; spells = record { spelled = refl; are_bytes = is.digest_is } };
}

marks_told : (files : List FileMark) → AllByRecursion IsMark files → AllZip TellsMark (map mark_data files) files
marks_told [] all = tt
marks_told (mark ∷ later) all = (mark_told mark all.0, marks_told later all.1)

identity_told : (members : ℕ) (id : List ℕ) (files : List FileMark) → IsIdentity members id files → TellsIdentity (identity_data members id files) members id files
identity_told members id files is = record {
  counted = refl;
  three_or_five = is.three_or_five;
  named = record { digits = encode_lower id; digits_at = refl; spells = record { spelled = refl; are_bytes = is.named } };
  values = map mark_data files;
  values_at = refl;
  marked = marks_told files is.marked;
  one_each = is.one_each;
}

-- ---- the whole text

few_nodes : (n : ℕ) → IsTrue (is_node_count n) → (0 < n) × (n < 2 ^ 64)
few_nodes n h = (grind (arith, nat_tests), grind (arith, nat_tests))

read_written : (members : ℕ) (id : List ℕ) (files : List FileMark) → IsIdentity members id files
    → read_text (identity_text members id files) ≡ Some (identity_data members id files)
read_written members id files is =
    let few = few_nodes members is.three_or_five in
    let some : 0 < length files = omega (arith, few.0, is.one_each) in
    let j = identity_json members id files in
    let written : tokens (identity_text members id files) ≡ tree.json_tokens j ++ []
    = tokens_written members id files few.1 is.named.each is.marked some ∙ tokens_match members id files ∙ sym (append-nil (tree.json_tokens j)) in
    ap (λ (ts : List Token). option_and_then of_json (option_and_then (λ p. json.if_last p.0 p.1) (json.value max_depth ts))) written
    ∙ ap (λ (o : Option (json.Json × List Token)). option_and_then of_json (option_and_then (λ p. json.if_last p.0 p.1) o)) (value-json_tokens j max_depth [] (shallow members id files))
    ∙ identity_read members id files few.1 is.marked

pub means_written : (members : ℕ) (id : List ℕ) (files : List FileMark) → IsIdentity members id files → MeansIdentity (identity_text members id files) members id files
means_written members id files is = record {
  is_text = is_text members id files (few_nodes members is.three_or_five).1 is.named.each is.marked;
  value = identity_data members id files;
  read = read_written members id files is;
  tells = identity_told members id files is;
}

pub means_text : (members : ℕ) (id : List ℕ) (files : List FileMark) → IsIdentity members id files → (text : String Global)
    → string_bytes text ≡ identity_text members id files → MeansIdentity (string_bytes text) members id files
means_text members id files is text same =
    subst (λ (bytes : List ℕ). MeansIdentity bytes members id files) (sym same) (means_written members id files is)
