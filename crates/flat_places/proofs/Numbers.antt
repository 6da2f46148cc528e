-- Numbers and references at a place.
use Rattle.std.proofs.Common.{◌≡◌, ℕ, ℤ, zero, suc, ◌+◌, ◌*◌, ◌/◌, ◌%◌, ◌^◌, ◌≤◌, ◌<◌, List, [], ◌∷◌, ◌++◌, length}
use Rattle.std.proofs.Common.{slice_index, Result, Ok, Err, IfErr, arith, refl, sym, ap, ◌∙◌, subst}
use Rattle.std.proofs.Math.Nat.{div-div-eq-div-mul, pow-succ'}
use Rattle.std.specs.Int.{byte_at, bytes_low_first}
use Rattle.std.specs.Result.{IsErrAnd}
use Rattle.byteorder.specs.Endian.{little_number, little_bytes, twos_complement}
use Rattle.byteorder.specs.Numbers.{little_from-cons, little_from-lt, little_number-reads_back, length-bytes_low_first}
use Rattle.flat_places.specs.declared.fault.PlaceFault.{PlaceFault}
use Rattle.flat_places.specs.declared.fault.PlaceFault.TheVariants.{OutOfBounds, NotUtf8, SmallVtable}
use Rattle.flat_places.specs.Held.{Holds}
use Rattle.flat_places.specs.Number.{ShowsUint, ShowsInt, ShowsReference}
use Rattle.flat_places.specs.Fault.{NumberFault}
use Rattle.flat_places.proofs.Bytes.{holds_within, holds_same}

-- a byte below moves the bytes up by one
above : (x b : ℕ) → b < 256 → (b + 256 * x) / 256 ≡ x
above x b h = omega arith

byte_above : (i x b : ℕ) → b < 256 → byte_at (suc i) (b + 256 * x) ≡ byte_at i x
byte_above zero x b h = omega arith
byte_above (suc i) x b h =
    let split : (b + 256 * x) / 256 ^ suc (suc i) ≡ x / 256 ^ suc i =
    ap (λ n. (b + 256 * x) / n) (pow-succ' 256 (suc i)) ∙ sym (div-div-eq-div-mul (b + 256 * x) 256 (256 ^ suc i))
    ∙ ap (λ n. n / 256 ^ suc i) (above x b h) in
    ap (λ n. n % 256) split

bytes_above : (i n x b : ℕ) → b < 256 → bytes_low_first (suc i) n (b + 256 * x) ≡ bytes_low_first i n x
bytes_above i zero x b h = refl
bytes_above i (suc n) x b h =
    ap (λ y. y ∷ bytes_low_first (suc (suc i)) n (b + 256 * x)) (byte_above i x b h)
    ∙ ap (λ l. byte_at i x ∷ l) (bytes_above (suc i) n x b h)

-- the bytes of the number in some bytes are these bytes
pub spelled : (n : ℕ) (bytes : List ℕ) → length bytes ≡ n → ((i : ℕ) → slice_index bytes i < 256)
    → little_bytes n (little_number n bytes) ≡ bytes
spelled zero [] len fits = refl
spelled zero (b ∷ bytes) len fits = absurd (omega arith)
spelled (suc n) [] len fits = absurd (omega arith)
spelled (suc n) (b ∷ bytes) len fits =
    let byte : b < 256 = fits 0 in
    let x : ℕ = little_number n bytes in
    let number : little_number (suc n) (b ∷ bytes) ≡ b + 256 * x =
    ap (λ y. b + 256 * y) (little_from-cons 0 n b bytes) in
    let low : (b + 256 * x) % 256 ≡ b = omega arith in
    ap (little_bytes (suc n)) number ∙ ap (λ y. y ∷ bytes_low_first 1 n (b + 256 * x)) low
    ∙ ap (λ l. b ∷ l) (bytes_above 0 n x b byte ∙ spelled n bytes (omega arith) (λ i. fits (suc i)))

-- the bytes at a place show the number that they are
pub uint_shown : (text : List ℕ) (place size : ℕ) (bytes : List ℕ) → Holds text place bytes → length bytes ≡ size
    → ((i : ℕ) → slice_index bytes i < 256) → ShowsUint text place size (little_number size bytes)
uint_shown text place size bytes held len fits = record {
  held = subst (Holds text place) (sym (spelled size bytes len fits)) held;
  fits = little_from-lt 0 size bytes fits;
}

pub uint_laid : (before after : List ℕ) (size x : ℕ) → x < 256 ^ size
    → ShowsUint (before ++ little_bytes size x ++ after) (length before) size x
uint_laid before after size x fits =
    record { held = record { before = before; after = after; parts = refl; stands = refl }; fits = fits }

pub uint_within : (text : List ℕ) (place size x : ℕ) → ShowsUint text place size x → place + size ≤ length text
uint_within text place size x h =
    omega (arith, holds_within text place (little_bytes size x) h.held, length-bytes_low_first 0 size x)

pub uint_same : (text : List ℕ) (place size x y : ℕ) → ShowsUint text place size x → ShowsUint text place size y → x ≡ y
uint_same text place size x y p q =
    let same : little_bytes size x ≡ little_bytes size y =
    holds_same text place (little_bytes size x) (little_bytes size y) p.held q.held
    (length-bytes_low_first 0 size x ∙ sym (length-bytes_low_first 0 size y)) in
    sym (little_number-reads_back size x [] p.fits) ∙ ap (λ l. little_number size (l ++ [])) same
    ∙ little_number-reads_back size y [] q.fits

pub int_same : (text : List ℕ) (place size : ℕ) (y z : ℤ) → ShowsInt text place size y → ShowsInt text place size z
    → y ≡ z
int_same text place size y z p q =
    p.signed ∙ ap (twos_complement size) (uint_same text place size p.bits q.bits p.shown q.shown) ∙ sym q.signed

pub reference_same : (text : List ℕ) (place x y : ℕ) → ShowsReference text place x → ShowsReference text place y → x ≡ y
reference_same text place x y p q =
    p.added ∙ ap (λ n. place + n) (uint_same text place 4 p.offset q.offset p.shown q.shown) ∙ sym q.added

-- what the exit of a `?` hands on
pub handed_on : {A : Type 0} (Fault : PlaceFault → Type 0) (r : Result A PlaceFault) (e : PlaceFault)
    → IsErrAnd r (λ y. y ≡ e) → Fault e → IfErr r Fault
handed_on Fault (Ok x) e h fault = tt
handed_on Fault (Err y) e h fault = subst Fault (sym h) fault

-- where a number's bytes are cut, it is not shown
pub uint_not_cut : (text : List ℕ) (place size : ℕ) (e : PlaceFault) (x : ℕ) → NumberFault text place size e
    → ShowsUint text place size x → ⊥
uint_not_cut text place size OutOfBounds x fault shown = omega (arith, uint_within text place size x shown)
uint_not_cut text place size NotUtf8 x fault shown = fault
uint_not_cut text place size SmallVtable x fault shown = fault

pub reference_not_cut : (text : List ℕ) (place : ℕ) (e : PlaceFault) (x : ℕ) → NumberFault text place 4 e
    → ShowsReference text place x → ⊥
reference_not_cut text place e x fault shown = uint_not_cut text place 4 e shown.offset fault shown.shown
