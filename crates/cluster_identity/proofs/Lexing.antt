-- The text that is written of an identity, as tokens of JSON.
use Rattle.std.proofs.Common.{◌≡◌, ℕ, suc, ◌/◌, ◌%◌, ◌<◌, ◌≤◌, ◌^◌, true, List, [], ◌∷◌, ◌++◌, length, slice_index, Some, None, decimal, refl, sym, ap, ap₂, ◌∙◌, append_assoc, arith}
use Rattle.std.specs.Prelude.{codes, IsUtf8}
use Rattle.std.specs.List.{AllByRecursion}
use Rattle.std.specs.Str.{IsAscii}
use Rattle.std.proofs.lemmas.Fmt.{IsAscii-decimal}
use Rattle.std.proofs.lemmas.Str.{IsUtf8-append, IsUtf8-from_ascii, IsUtf8-nil}
use Rattle.std.proofs.lemmas.Str.Ascii.{IsAscii-nil, IsAscii-cons}
use Rattle.json.specs.Token.{Token, begin_object, end_object, begin_array, end_array, key, string, number}
use Rattle.json.specs.Word.{ends_word}
use Rattle.json.specs.Text.{content}
use Rattle.json.specs.Lex.{Lexeme, token, comma, colon, string_token, lex, between, fresh, after_value, after_comma, punctuate, tokens}
use Rattle.json.specs.Print.{escape, escape_byte}
use Rattle.json.proofs.Printed.Strings.{content-escape, escape_byte_plain, lex-escape}
use Rattle.json.proofs.Printed.Numbers.{lex-number}
use Rattle.json.proofs.Printed.Decimals.{IsNumber-decimal}
use Rattle.json.proofs.Printed.Utf8.{IsUtf8-are_ascii}
use Rattle.hex.specs.Hex.{encode_lower, encode_with, hex_digit_value, lower_digits, IsBytes}
use Rattle.hex.proofs.HexLemmas.{IsDigits-lower_digits}
use Rattle.cluster_identity.specs.declared.file_mark.FileMark.{FileMark}
use Rattle.cluster_identity.specs.IdentityTexts.{mark_text, marks_text, identity_text, IsMark}

-- ---- hexadecimal digits stand for themselves in a string

-- the byte is ASCII, and stands for itself
record IsPlain (c : ℕ) : Type 0 where
  small : c < 128
  itself : escape_byte c ≡ c ∷ []

digit_is_low : (c v : ℕ) → hex_digit_value c ≡ Some v → c < 128
digit_is_low c v h = grind (arith)

digit_is_high : (c v : ℕ) → hex_digit_value c ≡ Some v → 48 ≤ c
digit_is_high c v h = grind (arith)

digit_is_no_backslash : (c v : ℕ) → hex_digit_value c ≡ Some v → c ≡ 92 → ⊥
digit_is_no_backslash c v h is =
    let none : None ≡ Some v = sym (ap hex_digit_value is) ∙ h in absurd cc

digit_is_plain : (v : ℕ) → v < 16 → IsPlain (slice_index lower_digits v)
digit_is_plain v h =
    let c = slice_index lower_digits v in
    let value = IsDigits-lower_digits v h in
    let high : 48 ≤ c = digit_is_high c v value in
    record {
      small = digit_is_low c v value;
      itself = escape_byte_plain c (λ e. omega arith) (digit_is_no_backslash c v value) (omega arith);
    }

pub escape_hex : (bytes : List ℕ) → IsBytes bytes → escape (encode_lower bytes) ≡ encode_lower bytes
unfolding encode_with
escape_hex [] h = refl
escape_hex (b ∷ rest) h =
    let fits : b < 256 = h 0 in
    let first = digit_is_plain (b / 16) (omega arith) in
    let second = digit_is_plain (b % 16) (omega arith) in
    rw (first.itself, second.itself, escape_hex rest (λ k. h (suc k)))

pub hex_is_ascii : (bytes : List ℕ) → IsBytes bytes → IsAscii (encode_lower bytes)
unfolding encode_with
hex_is_ascii [] h = IsAscii-nil
hex_is_ascii (b ∷ rest) h =
    let fits : b < 256 = h 0 in
    let first = digit_is_plain (b / 16) (omega arith) in
    let second = digit_is_plain (b % 16) (omega arith) in
    let behind : List ℕ = encode_lower rest in
    IsAscii-cons _ (slice_index lower_digits (b % 16) ∷ behind) first.small (IsAscii-cons _ behind second.small (hex_is_ascii rest (λ k. h (suc k))))

-- ---- the lexemes of the text

lex_hex : (bytes r : List ℕ) → IsBytes bytes → lex between (34 ∷ (encode_lower bytes ++ 34 ∷ r)) ≡ token (string (encode_lower bytes)) ∷ lex between r
unfolding lex
lex_hex bytes r h =
    let same = escape_hex bytes h in
    ap (λ (l : List ℕ). lex between (34 ∷ (l ++ 34 ∷ r))) (sym same)
    ∙ ap₂ (λ o l. token (string_token o) ∷ l) (content-escape (encode_lower bytes) r) (lex-escape (encode_lower bytes) r)

lex_whole : (n : ℕ) (r : List ℕ) → n < 2 ^ 64 → ends_word r ≡ true → lex between (decimal n ++ r) ≡ token (number (decimal n)) ∷ lex between r
lex_whole n r h ended = lex-number (decimal n) r (IsNumber-decimal n h) ended

abbrev mark_lexemes : FileMark → List Lexeme → List Lexeme
mark_lexemes mark rest =
    token begin_object ∷ token (string (codes "length")) ∷ colon ∷ token (number (decimal mark.length)) ∷ comma ∷ token (string (codes "sha256")) ∷ colon
    ∷ token (string (encode_lower mark.digest)) ∷ token end_object ∷ rest

lex_mark : (mark : FileMark) (r : List ℕ) → IsMark mark → lex between (mark_text mark ++ r) ≡ mark_lexemes mark (lex between r)
unfolding lex content
lex_mark mark r is =
    let behind : List ℕ = codes "\"}" ++ r in
    let digits : List ℕ = encode_lower mark.digest in
    let sha : List ℕ = codes ",\"sha256\":\"" ++ (digits ++ behind) in
    let apart : mark_text mark ++ r ≡ codes "{\"length\":" ++ (decimal mark.length ++ sha) = simp append_assoc in
    ap (lex between) apart
    ∙ ap (λ (l : List Lexeme). token begin_object ∷ token (string (codes "length")) ∷ colon ∷ l)
    (lex_whole mark.length sha is.fits refl
    ∙ ap (λ (l : List Lexeme). token (number (decimal mark.length)) ∷ comma ∷ token (string (codes "sha256")) ∷ colon ∷ l) (lex_hex mark.digest (125 ∷ r) is.digest_is.each))

abbrev marks_lexemes : List FileMark → List Lexeme → List Lexeme
marks_lexemes [] rest = rest
marks_lexemes (mark ∷ []) rest = mark_lexemes mark rest
marks_lexemes (mark ∷ next ∷ later) rest = mark_lexemes mark (comma ∷ marks_lexemes (next ∷ later) rest)

lex_marks : (files : List FileMark) (r : List ℕ) → AllByRecursion IsMark files → lex between (marks_text files ++ r) ≡ marks_lexemes files (lex between r)
unfolding lex
lex_marks [] r all = refl
lex_marks (mark ∷ []) r all = lex_mark mark r all.0
lex_marks (mark ∷ next ∷ later) r all =
    let apart = append_assoc (mark_text mark) (codes "," ++ marks_text (next ∷ later)) r in
    ap (lex between) apart ∙ lex_mark mark (44 ∷ (marks_text (next ∷ later) ++ r)) all.0
    ∙ ap (λ (l : List Lexeme). mark_lexemes mark (comma ∷ l)) (lex_marks (next ∷ later) r all.1)

abbrev identity_lexemes : ℕ → List ℕ → List FileMark → List Lexeme
identity_lexemes members id files =
    token begin_object ∷ token (string (codes "members")) ∷ colon ∷ token (number (decimal members)) ∷ comma ∷ token (string (codes "id")) ∷ colon
    ∷ token (string (encode_lower id)) ∷ comma ∷ token (string (codes "files")) ∷ colon ∷ token begin_array
    ∷ marks_lexemes files (token end_array ∷ token end_object ∷ [])

lex_identity : (members : ℕ) (id : List ℕ) (files : List FileMark) → members < 2 ^ 64 → IsBytes id → AllByRecursion IsMark files
    → lex between (identity_text members id files) ≡ identity_lexemes members id files
unfolding lex content
lex_identity members id files fits bytes all =
    let end : List ℕ = codes "]}\n" in
    let marks : List ℕ = codes ",\"files\":[" ++ (marks_text files ++ end) in
    let named : List ℕ = codes ",\"id\":\"" ++ (encode_lower id ++ 34 ∷ marks) in
    ap (λ (l : List Lexeme). token begin_object ∷ token (string (codes "members")) ∷ colon ∷ l)
    (lex_whole members named fits refl
    ∙ ap (λ (l : List Lexeme). token (number (decimal members)) ∷ comma ∷ token (string (codes "id")) ∷ colon ∷ l)
    (lex_hex id marks bytes
    ∙ ap (λ (l : List Lexeme). token (string (encode_lower id)) ∷ comma ∷ token (string (codes "files")) ∷ colon ∷ token begin_array ∷ l) (lex_marks files end all)))

-- ---- their tokens

abbrev mark_tokens : FileMark → List Token → List Token
mark_tokens mark rest =
    begin_object ∷ key (codes "length") ∷ number (decimal mark.length) ∷ key (codes "sha256") ∷ string (encode_lower mark.digest) ∷ end_object ∷ rest

abbrev pub marks_tokens : List FileMark → List Token → List Token
marks_tokens [] rest = rest
marks_tokens (mark ∷ later) rest = mark_tokens mark (marks_tokens later rest)

later_marks : (mark : FileMark) (later : List FileMark) (rest : List Lexeme) → punctuate after_comma (marks_lexemes (mark ∷ later) rest) ≡ marks_tokens (mark ∷ later) (punctuate after_value rest)
unfolding punctuate
later_marks mark [] rest = refl
later_marks mark (next ∷ later) rest = ap (mark_tokens mark) (later_marks next later rest)

first_marks : (files : List FileMark) (rest : List Lexeme) → 0 < length files → punctuate fresh (marks_lexemes files rest) ≡ marks_tokens files (punctuate after_value rest)
unfolding punctuate
first_marks [] rest h = absurd (omega arith)
first_marks (mark ∷ []) rest h = refl
first_marks (mark ∷ next ∷ later) rest h = ap (mark_tokens mark) (later_marks next later rest)

abbrev pub identity_tokens : ℕ → List ℕ → List FileMark → List Token
identity_tokens members id files =
    begin_object ∷ key (codes "members") ∷ number (decimal members) ∷ key (codes "id") ∷ string (encode_lower id) ∷ key (codes "files") ∷ begin_array
    ∷ marks_tokens files (end_array ∷ end_object ∷ [])

pub tokens_written : (members : ℕ) (id : List ℕ) (files : List FileMark) → members < 2 ^ 64 → IsBytes id → AllByRecursion IsMark files → 0 < length files
    → tokens (identity_text members id files) ≡ identity_tokens members id files
unfolding punctuate
tokens_written members id files fits bytes all some =
    ap (punctuate fresh) (lex_identity members id files fits bytes all)
    ∙ ap (λ (ts : List Token). begin_object ∷ key (codes "members") ∷ number (decimal members) ∷ key (codes "id") ∷ string (encode_lower id) ∷ key (codes "files") ∷ begin_array ∷ ts)
    (first_marks files (token end_array ∷ token end_object ∷ []) some)

-- ---- the text is ASCII

two_texts : (a b : List ℕ) → IsUtf8 a → IsUtf8 b → IsUtf8 (a ++ b)
two_texts = IsUtf8-append

mark_is_text : (mark : FileMark) → IsMark mark → IsUtf8 (mark_text mark)
mark_is_text mark is =
    two_texts (codes "{\"length\":") _ (IsUtf8-are_ascii _ refl)
    (two_texts (decimal mark.length) _ (IsUtf8-from_ascii _ (IsAscii-decimal mark.length is.fits))
    (two_texts (codes ",\"sha256\":\"") _ (IsUtf8-are_ascii _ refl)
    (two_texts (encode_lower mark.digest) _ (IsUtf8-from_ascii _ (hex_is_ascii mark.digest is.digest_is.each)) (IsUtf8-are_ascii (codes "\"}") refl))))

marks_are_text : (files : List FileMark) → AllByRecursion IsMark files → IsUtf8 (marks_text files)
marks_are_text [] all = IsUtf8-nil
marks_are_text (mark ∷ []) all = mark_is_text mark all.0
marks_are_text (mark ∷ next ∷ later) all =
    two_texts (mark_text mark) _ (mark_is_text mark all.0) (two_texts (codes ",") _ (IsUtf8-are_ascii _ refl) (marks_are_text (next ∷ later) all.1))

pub is_text : (members : ℕ) (id : List ℕ) (files : List FileMark) → members < 2 ^ 64 → IsBytes id → AllByRecursion IsMark files → IsUtf8 (identity_text members id files)
is_text members id files fits bytes all =
    two_texts (codes "{\"members\":") _ (IsUtf8-are_ascii _ refl)
    (two_texts (decimal members) _ (IsUtf8-from_ascii _ (IsAscii-decimal members fits))
    (two_texts (codes ",\"id\":\"") _ (IsUtf8-are_ascii _ refl)
    (two_texts (encode_lower id) _ (IsUtf8-from_ascii _ (hex_is_ascii id bytes))
    (two_texts (codes "\",\"files\":[") _ (IsUtf8-are_ascii _ refl) (two_texts (marks_text files) _ (marks_are_text files all) (IsUtf8-are_ascii (codes "]}\n") refl))))))
