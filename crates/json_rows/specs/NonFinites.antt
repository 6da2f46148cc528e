-- Floats that are no finite numbers: their bits (IEEE 754, section 3.4: all bits of the exponent are set), and the texts that stand
-- for them, which JSON has no numbers for (RFC 8259, section 6): Protocol Buffers, "ProtoJSON Format", `double` and `float`.
use Rattle.std.specs.Prelude.{◌≡◌, ℕ, List, codes}
use Rattle.byteorder.specs.Endian.{little_bytes}
use Rattle.serde_json.specs.Data.{Data, string}
use Rattle.json_rows.specs.declared.non_finite.NonFinite.{NonFinite}
use Rattle.json_rows.specs.declared.non_finite.NonFinite.TheVariants.{Nan, Infinity, MinusInfinity}

abbrev pub text_of : NonFinite → List ℕ
text_of Nan = codes "NaN"
text_of Infinity = codes "Infinity"
text_of MinusInfinity = codes "-Infinity"

-- Of the NaNs it is the quiet one without a sign and without a payload.
abbrev pub double_bits_of : NonFinite → ℕ
double_bits_of Nan = 0x7ff8_0000_0000_0000
double_bits_of Infinity = 0x7ff0_0000_0000_0000
double_bits_of MinusInfinity = 0xfff0_0000_0000_0000

abbrev pub single_bits_of : NonFinite → ℕ
single_bits_of Nan = 0x7fc0_0000
single_bits_of Infinity = 0x7f80_0000
single_bits_of MinusInfinity = 0xff80_0000

-- the value is the text of one, which has these bytes
pub record TellsNonFinite (bits : NonFinite → ℕ) (size : ℕ) (d : Data) (bytes : List ℕ) : Type 0 where
  pub non_finite : NonFinite
  pub told : d ≡ string (text_of non_finite)
  pub bytes_are : bytes ≡ little_bytes size (bits non_finite)
