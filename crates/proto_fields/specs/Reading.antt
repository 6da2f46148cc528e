-- Reading fields from left to right, with the fault that is met first. `reading_is_encoding` ties this to what a text
-- encodes, both ways; the definitions that promises rest on are those of `Varint` and `Field`.
use Rattle.std.specs.Prelude.{◌≡◌, ℕ, ◌+◌, ◌-◌, ◌*◌, ◌/◌, ◌%◌, ◌^◌, ◌<◌, ◌&&◌, List, [], ◌∷◌, length, slice_index, take, drop, Result, Ok, Err, nat_lt, nat_le, ◌==◌, if◌then◌else◌}
use Rattle.proto_fields.specs.declared.fault.WireFault.{WireFault}
use Rattle.proto_fields.specs.declared.fault.WireFault.TheVariants.{BadVarint, BadKey, BadWireType, CutShort}
use Rattle.proto_fields.specs.Varint.{max_varint_bytes}
use Rattle.proto_fields.specs.Field.{Held, Varint, Eight, Bytes, Four, Field, max_field_number}

-- each is below 256
abbrev pub IsBytes : List ℕ → Type 0
IsBytes bytes = (i : ℕ) → slice_index bytes i < 256

infixl 10 ◌>>=◌
abbrev pub ◌>>=◌ : {E A B : Type 0} → Result A E → (A → Result B E) → Result B E
(Ok x) >>= f = f x
(Err e) >>= f = Err e

-- what a call returned, seen by view, is what reading gives
abbrev pub Gives : {X Y : Type 0} → (X → Y) → Result X WireFault → Result Y WireFault → Type 0
Gives view (Ok x) read = read ≡ Ok (view x)
Gives view (Err e) read = read ≡ Err e

-- the byte's seven bits below the number that follows
unfoldable pub joined : ℕ → Result (ℕ × List ℕ) WireFault → Result (ℕ × List ℕ) WireFault
joined b read = read >>= λ high. if nat_lt high.0 (2 ^ 57) then Ok (high.0 * 128 + (b - 128), high.1) else Err BadVarint

-- the number at the front in at most so many bytes, and the rest
unfoldable pub number_at : ℕ → List ℕ → Result (ℕ × List ℕ) WireFault
number_at most [] = if most == 0 then Err BadVarint else Err CutShort
number_at most (b ∷ text) =
    if most == 0 then Err BadVarint else if nat_lt b 128 then Ok (b, text) else joined b (number_at (most - 1) text)

unfoldable pub varint_at : List ℕ → Result (ℕ × List ℕ) WireFault
varint_at text = number_at max_varint_bytes text

unfoldable pub bytes_at : ℕ → List ℕ → Result (List ℕ × List ℕ) WireFault
bytes_at n text = if nat_lt (length text) n then Err CutShort else Ok (take n text, drop n text)

unfoldable pub held_read : ℕ → List ℕ → Result (Held × List ℕ) WireFault
held_read kind text =
    if kind == 0 then (varint_at text >>= λ x. Ok (Varint x.0, x.1))
    else if kind == 1 then (bytes_at 8 text >>= λ x. Ok (Eight x.0, x.1))
    else if kind == 2 then (varint_at text >>= λ n. bytes_at n.0 n.1 >>= λ x. Ok (Bytes x.0, x.1))
    else if kind == 5 then (bytes_at 4 text >>= λ x. Ok (Four x.0, x.1))
    else Err BadWireType

unfoldable pub number_of_key : ℕ → Result ℕ WireFault
number_of_key key = if nat_lt 0 (key / 8) && nat_le (key / 8) max_field_number then Ok (key / 8) else Err BadKey

unfoldable pub field_read : List ℕ → Result (Field × List ℕ) WireFault
field_read text = do
  key ← varint_at text
  number ← number_of_key key.0
  held ← held_read (key.0 % 8) key.1
  Ok (record { number = number; held = held.0 }, held.1)
