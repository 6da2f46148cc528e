-- Names of tables, and those of uploads in hexadecimal, are texts.
use Rattle.std.proofs.Common.{refl, ℕ, ◌<◌, List, [], ◌∷◌, slice_index_or, inl, inr, IsUtf8, arith}
use Rattle.std.specs.List.{AllByRecursion}
use Rattle.std.specs.Str.{IsAscii}
use Rattle.std.proofs.Math.Dec.{ltb}
use Rattle.std.proofs.lemmas.Bool.{ltb-true}
use Rattle.std.proofs.lemmas.List.Elements.{All-from_recursion}
use Rattle.std.proofs.lemmas.List.Sums.{AllPass-from_list_all}
use Rattle.std.proofs.lemmas.Str.{IsUtf8-from_ascii}
use Rattle.std.proofs.lemmas.Str.Ascii.{IsAscii-from_all}
use Rattle.hex.specs.Hex.{lower_digits}
use Rattle.hex.proofs.HexLemmas.{IsAscii-encode_with}
use Rattle.table_types.specs.Valid.{IsNameByte, IsTableName}
use Rattle.call_protocol.specs.Names.{id_text}

byte_is_ascii : (byte : ℕ) → IsNameByte byte → byte < 128
byte_is_ascii byte (inl digit) = omega (arith, digit.1)
byte_is_ascii byte (inr (inl upper)) = omega (arith, upper.1)
byte_is_ascii byte (inr (inr (inl lower))) = omega (arith, lower.1)
byte_is_ascii byte (inr (inr (inr (inl is)))) = omega (arith, is)
byte_is_ascii byte (inr (inr (inr (inr (inl is))))) = omega (arith, is)
byte_is_ascii byte (inr (inr (inr (inr (inr is))))) = omega (arith, is)

each_ascii : (name : List ℕ) → AllByRecursion IsNameByte name → AllByRecursion (λ byte. byte < 128) name
each_ascii [] each = tt
each_ascii (byte ∷ name) each = (byte_is_ascii byte each.0, each_ascii name each.1)

pub table_is_text : (name : List ℕ) → IsTableName name → IsUtf8 name
table_is_text name is =
    IsUtf8-from_ascii name (IsAscii-from_all name (All-from_recursion (λ byte. byte < 128) name (each_ascii name is.each)))

digits_are_ascii : IsAscii lower_digits
digits_are_ascii =
    IsAscii-from_all lower_digits
    (λ k d within. ltb-true (slice_index_or lower_digits k d) 128 (AllPass-from_list_all (λ byte. ltb byte 128) lower_digits refl k d within))

pub digits_are_text : (id : List ℕ) → IsUtf8 (id_text id)
digits_are_text id = IsUtf8-from_ascii (id_text id) (IsAscii-encode_with lower_digits id digits_are_ascii)
