-- Names of tables.
use Rattle.std.proofs.Common.{◌≡◌, ◌⊎◌, inl, inr, ℕ, ◌<◌, List, [], ◌∷◌, arith}
use Rattle.std.specs.Str.{IsUtf8, IsAscii}
use Rattle.std.specs.List.{AllByRecursion}
use Rattle.std.proofs.lemmas.Str.{IsUtf8-from_ascii}
use Rattle.std.proofs.lemmas.Str.Ascii.{IsAscii-nil, IsAscii-cons}
use Rattle.table_types.specs.Valid.{IsNameByte, IsTableName}

byte_is_ascii : (byte : ℕ) → IsNameByte byte → byte < 128
byte_is_ascii byte is =
    elim is [
      | inl digit ↦ omega (arith, digit.1)
      | inr rest ↦ elim rest [
        | inl upper ↦ omega (arith, upper.1)
        | inr rest ↦ elim rest [
          | inl lower ↦ omega (arith, lower.1)
          | inr rest ↦ elim rest [ inl a ↦ omega (arith, a) | inr rest ↦ elim rest [ inl a ↦ omega (arith, a) | inr a ↦ omega (arith, a) ] ]
        ]
      ]
    ]

bytes_are_ascii : (bytes : List ℕ) → AllByRecursion IsNameByte bytes → IsAscii bytes
bytes_are_ascii [] all = IsAscii-nil
bytes_are_ascii (byte ∷ bytes) all = IsAscii-cons byte bytes (byte_is_ascii byte all.0) (bytes_are_ascii bytes all.1)

pub name_is_utf8 : (name : List ℕ) → IsTableName name → IsUtf8 name
name_is_utf8 name is = IsUtf8-from_ascii name (bytes_are_ascii name is.each)
