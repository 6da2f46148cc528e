-- Floats that are no finite numbers, and those that are.
use Rattle.std.proofs.Common.{◌≡◌, ◌≢◌, ◌⊎◌, inl, inr, ℕ, ◌<◌, ◌^◌, List, [], ◌++◌, sym, ap, subst, ◌∙◌, lit<}
use Rattle.byteorder.specs.Endian.{little_bytes, little_number}
use Rattle.byteorder.specs.Numbers.{little_number-reads_back}
use Rattle.serde_json.specs.Data.{Data, string}
use Rattle.json_rows.specs.declared.non_finite.NonFinite.{NonFinite}
use Rattle.json_rows.specs.declared.non_finite.NonFinite.TheVariants.{Nan, Infinity, MinusInfinity}
use Rattle.json_rows.specs.NonFinites.{TellsNonFinite, double_bits_of, single_bits_of, text_of}

-- what holds of finite numbers holds of a value that is the text of no other float
pub finite_told : (Finite Q : Type 0) (bits : NonFinite → ℕ) (size : ℕ) (d : Data) (bytes : List ℕ) → ((m : NonFinite) → d ≢ string (text_of m)) → (Finite → Q)
    → Finite ⊎ TellsNonFinite bits size d bytes → Q
finite_told Finite Q bits size d bytes none then (inl p) = then p
finite_told Finite Q bits size d bytes none then (inr q) = absurd (none q.non_finite q.told)

little_one : (size x y : ℕ) → x < 256 ^ size → y < 256 ^ size → little_bytes size x ≡ little_bytes size y → x ≡ y
little_one size x y p q same =
    sym (little_number-reads_back size x [] p) ∙ ap (λ (l : List ℕ). little_number size (l ++ [])) same ∙ little_number-reads_back size y [] q

-- and of bytes whose bits are those of no other float
pub finite_bits : (Finite : List ℕ → Type 0) (Q : Type 0) (bits : NonFinite → ℕ) (size n : ℕ) (d : Data) (bytes : List ℕ) → bytes ≡ little_bytes size n → n < 256 ^ size
    → ((m : NonFinite) → bits m < 256 ^ size) → ((m : NonFinite) → n ≢ bits m) → (Finite (little_bytes size n) → Q) → Finite bytes ⊎ TellsNonFinite bits size d bytes → Q
finite_bits Finite Q bits size n d bytes is fits all none then (inl p) = then (subst Finite is p)
finite_bits Finite Q bits size n d bytes is fits all none then (inr q) =
    absurd (none q.non_finite (little_one size n (bits q.non_finite) fits (all q.non_finite) (sym is ∙ q.bytes_are)))

pub double_fits : (m : NonFinite) → double_bits_of m < 256 ^ 8
double_fits Nan = lit< tt
double_fits Infinity = lit< tt
double_fits MinusInfinity = lit< tt

pub single_fits : (m : NonFinite) → single_bits_of m < 256 ^ 4
single_fits Nan = lit< tt
single_fits Infinity = lit< tt
single_fits MinusInfinity = lit< tt
