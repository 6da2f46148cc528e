-- A length that is put before bytes that were written first.
use Rattle.std.specs.Prelude.{ℕ, suc, List, ◌++◌, length, take, drop}
use Rattle.proto_fields.specs.Varint.{varint_text}

-- the bytes with the length of those behind the place in place of the one that stands there
abbrev pub with_length : ℕ → List ℕ → List ℕ
with_length place bytes = take place bytes ++ varint_text (length (drop (suc place) bytes)) ++ drop (suc place) bytes
