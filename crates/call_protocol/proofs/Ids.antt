-- Names of uploads, written and read.
use Rattle.std.proofs.Common.{◌≡◌, ℕ, ◌<◌, ◌*◌, List, [], ◌∷◌, length, Result, Ok, Err, refl, sym, ap, ◌∙◌, zero, suc, arith}
use Rattle.std.specs.List.{AllByRecursion}
use Rattle.std.specs.Result.{result_unwrap_or}
use Rattle.hex.specs.Hex.{IsBytes, decode_sized, lower_digits}
use Rattle.hex.specs.declared.error.FromHexError.{FromHexError}
use Rattle.hex.proofs.HexLemmas.{decode_sized-encode_lower, decode_sized-ok, decode_sized-twice, decode_of-ok, length-encode_with}
use Rattle.table_types.specs.Valid.{IsId}
use Rattle.call_protocol.specs.Names.{id_text}

bytes_each : (xs : List ℕ) → AllByRecursion (λ byte. byte < 256) xs → IsBytes xs
bytes_each [] h i = omega arith
bytes_each (x ∷ xs) h zero = h.0
bytes_each (x ∷ xs) h (suc i) = bytes_each xs h.1 i

all_bytes : (xs : List ℕ) → IsBytes xs → AllByRecursion (λ byte. byte < 256) xs
all_bytes [] h = tt
all_bytes (x ∷ xs) h = (h 0, all_bytes xs (λ i. h (suc i)))

-- the text of a name is read as that name
pub id_reads : (text id : List ℕ) → IsId id → text ≡ id_text id → decode_sized text 16 ≡ Ok id
id_reads text id h is =
    ap (λ (t : List ℕ). decode_sized t 16) is ∙ decode_sized-encode_lower id 16 h.whole (bytes_each id h.bytes)

-- and so as no other
pub id_is_read : (text id read : List ℕ) → IsId id → text ≡ id_text id → decode_sized text 16 ≡ Ok read → id_text read ≡ text
id_is_read text id read h is got =
    let ids : read ≡ id =
    ap (λ (r : Result (List ℕ) FromHexError). result_unwrap_or r []) (sym got ∙ id_reads text id h is) in
    ap id_text ids ∙ sym is

-- what is read is a name
pub read_id : (text read : List ℕ) → decode_sized text 16 ≡ Ok read → IsId read
read_id text read got =
    let long : length text ≡ 2 * 16 = decode_sized-ok text 16 read got in
    let parts = decode_of-ok text read (sym (decode_sized-twice text 16 long) ∙ got) in
    let whole : length text ≡ 2 * length read = parts.2 in
    record { whole = omega (arith, long, whole); bytes = all_bytes read parts.3 }

-- names are told apart by their texts
pub ids_are_one : (x y : List ℕ) → IsId x → IsId y → id_text x ≡ id_text y → x ≡ y
ids_are_one x y h k same =
    ap (λ (r : Result (List ℕ) FromHexError). result_unwrap_or r []) (sym (id_reads (id_text x) x h refl) ∙ id_reads (id_text x) y k same)

pub id_digits : (x : List ℕ) → IsId x → length (id_text x) ≡ 32
id_digits x h =
    let len = length-encode_with lower_digits x in
    let whole = h.whole in
    omega (arith, len, whole)
