-- Numbers as bytes: Protocol Buffers, "Encoding", "Base 128 Varints".
use Rattle.std.specs.Prelude.{◌≡◌, ℕ, zero, suc, ◌+◌, ◌*◌, ◌/◌, ◌%◌, ◌^◌, ◌<◌, ◌≤◌, ◌⊎◌, List, [], ◌∷◌, ◌++◌, length, nat_lt, if◌then◌else◌}
use Rattle.std.specs.List.{AllByRecursion}
use Rattle.proto_fields.specs.declared.fault.WireFault.{WireFault}
use Rattle.proto_fields.specs.declared.fault.WireFault.TheVariants.{BadVarint, BadKey, BadWireType, CutShort, NotUtf8, OutOfMemory}

-- The bytes encode the number, seven bits in each, the lowest first: a byte below 128 is the last, and after one from
-- 128 on the others encode what is above its seven bits. A number may take more bytes than it needs.
abbrev pub EncodesNumber : List ℕ → ℕ → Type 0
EncodesNumber [] n = ⊥
EncodesNumber (b ∷ bytes) n =
    ((b < 128) × (bytes ≡ []) × (n ≡ b))
    ⊎ ((128 ≤ b) × (b < 256) × ((high : ℕ) × (n + 128 ≡ b + 128 * high) × EncodesNumber bytes high))

-- the most bytes of a number
abbrev pub max_varint_bytes : ℕ
max_varint_bytes = 10

-- at most ten bytes, and a number of 64 bits
pub record IsVarint (bytes : List ℕ) (n : ℕ) : Type 0 where
  pub encodes : EncodesNumber bytes n
  pub short : length bytes ≤ max_varint_bytes
  pub fits : n < 2 ^ 64

-- no byte is the last of a number
abbrev pub AllGoOn : List ℕ → Type 0
AllGoOn bytes = AllByRecursion (λ b. 128 ≤ b) bytes

-- the text ends before the number does
abbrev pub IsCutVarint : List ℕ → Type 0
IsCutVarint text = AllGoOn text × (length text < max_varint_bytes)

-- the number does not end within ten bytes, or ends and takes more than 64 bits
abbrev pub IsBadVarint : List ℕ → Type 0
IsBadVarint text =
    (bytes rest : List ℕ) × (text ≡ bytes ++ rest) × (length bytes ≤ max_varint_bytes)
    × ((AllGoOn bytes × (length bytes ≡ max_varint_bytes)) ⊎ ((n : ℕ) × EncodesNumber bytes n × (2 ^ 64 ≤ n)))

-- what is wrong with a text that does not begin with a number
abbrev pub VarintFault : WireFault → List ℕ → Type 0
VarintFault BadVarint text = IsBadVarint text
VarintFault BadKey text = ⊥
VarintFault BadWireType text = ⊥
VarintFault CutShort text = IsCutVarint text
VarintFault NotUtf8 text = ⊥
VarintFault OutOfMemory text = ⊥

-- the text is an encoding of the number, and then the rest
abbrev pub VarintThen : List ℕ → ℕ → List ℕ → Type 0
VarintThen text n rest = (bytes : List ℕ) × IsVarint bytes n × (text ≡ bytes ++ rest)

-- the seven lowest bits of n with the mark that bytes follow, then those of what is above them, at most k bytes
abbrev pub digits : ℕ → ℕ → List ℕ
digits zero n = []
digits (suc k) n = if nat_lt n 128 then n ∷ [] else (n % 128 + 128) ∷ digits k (n / 128)

-- the shortest encoding of a number of 64 bits
unfoldable pub varint_text : ℕ → List ℕ
varint_text n = digits max_varint_bytes n
