-- Vectors and strings at a place.
use Rattle.std.proofs.Common.{◌≡◌, ℕ, ◌+◌, ◌*◌, ◌≤◌, inl, inr, List, length, IsUtf8, arith, refl, sym, ap, ◌∙◌, subst}
use Rattle.flat_places.specs.declared.fault.PlaceFault.{PlaceFault}
use Rattle.flat_places.specs.declared.fault.PlaceFault.TheVariants.{OutOfBounds, NotUtf8, SmallVtable}
use Rattle.flat_places.specs.Held.{Holds}
use Rattle.flat_places.specs.Number.{ShowsUint}
use Rattle.flat_places.specs.Vector.{ShowsVector, ShowsText}
use Rattle.flat_places.specs.Fault.{VectorFault, TextFault}
use Rattle.flat_places.proofs.Bytes.{holds_within, holds_same}
use Rattle.flat_places.proofs.Numbers.{uint_same, uint_within}

pub vector_same : (text : List ℕ) (place size first first' count count' : ℕ) → ShowsVector text place size first count
    → ShowsVector text place size first' count' → (first ≡ first') × (count ≡ count')
vector_same text place size first first' count count' p q =
    (p.follows ∙ sym q.follows, uint_same text place 4 count count' p.shown q.shown)

pub vector_not_cut : (text : List ℕ) (place size first count : ℕ) (e : PlaceFault) → VectorFault text place size e
    → ShowsVector text place size first count → ⊥
vector_not_cut text place size first count OutOfBounds (inl cut) shown =
    let within : place + 4 ≤ length text = uint_within text place 4 count shown.shown in omega arith
vector_not_cut text place size first count OutOfBounds (inr (n, read, cut)) shown =
    let same : n ≡ count = uint_same text place 4 n count read shown.shown in
    let elements : n * size ≡ length shown.elements = ap (λ k. k * size) same ∙ sym shown.whole in
    let within : first + length shown.elements ≤ length text = holds_within text first shown.elements shown.held in
    omega (arith, shown.follows)
vector_not_cut text place size first count NotUtf8 fault shown = fault
vector_not_cut text place size first count SmallVtable fault shown = fault

-- a string is a vector of its bytes
pub text_is_vector : (text : List ℕ) (place : ℕ) (bytes : List ℕ) → ShowsText text place bytes
    → ShowsVector text place 1 (place + 4) (length bytes)
text_is_vector text place bytes shown = record {
  shown = shown.shown;
  follows = refl;
  elements = bytes;
  held = shown.held;
  whole = omega arith;
}

pub text_same : (text : List ℕ) (place : ℕ) (xs ys : List ℕ) → ShowsText text place xs → ShowsText text place ys
    → xs ≡ ys
text_same text place xs ys p q =
    holds_same text (place + 4) xs ys p.held q.held (uint_same text place 4 (length xs) (length ys) p.shown q.shown)

pub text_not_cut : (text : List ℕ) (place : ℕ) (e : PlaceFault) (bytes : List ℕ) → TextFault text place e
    → ShowsText text place bytes → ⊥
text_not_cut text place OutOfBounds bytes fault shown =
    vector_not_cut text place 1 (place + 4) (length bytes) OutOfBounds fault (text_is_vector text place bytes shown)
text_not_cut text place NotUtf8 bytes (others, read, held, not) shown =
    let same : others ≡ bytes = holds_same text (place + 4) others bytes held shown.held
    (uint_same text place 4 (length others) (length bytes) read shown.shown) in
    not (subst IsUtf8 (sym same) shown.utf8)
text_not_cut text place SmallVtable bytes fault shown = fault

-- the bytes of a vector of bytes are a string where they are UTF-8
pub text_shown : (text : List ℕ) (place first count : ℕ) (bytes : List ℕ) → ShowsVector text place 1 first count
    → Holds text first bytes
    → length bytes ≡ count → IsUtf8 bytes → ShowsText text place bytes
text_shown text place first count bytes shown held len utf8 = record {
  shown = subst (ShowsUint text place 4) (sym len) shown.shown;
  held = subst (λ k. Holds text k bytes) shown.follows held;
  utf8 = utf8;
}

-- and where they are not, that is its fault
pub text_not_utf8 : (text : List ℕ) (place first count : ℕ) (bytes : List ℕ) → ShowsVector text place 1 first count
    → Holds text first bytes
    → length bytes ≡ count → (¬ IsUtf8 bytes) → TextFault text place NotUtf8
text_not_utf8 text place first count bytes shown held len not = (
  bytes,
  subst (ShowsUint text place 4) (sym len) shown.shown,
  subst (λ k. Holds text k bytes) shown.follows held,
  not,
)

pub vector_within : (text : List ℕ) (place size first count : ℕ) → ShowsVector text place size first count
    → (first ≡ place + 4) × (first + count * size ≤ length text)
vector_within text place size first count h =
    let within : first + length h.elements ≤ length text = holds_within text first h.elements h.held in
    (h.follows, omega (arith, h.whole))

pub text_within : (text : List ℕ) (place : ℕ) (bytes : List ℕ) → ShowsText text place bytes
    → place + 4 + length bytes ≤ length text
text_within text place bytes h = holds_within text (place + 4) bytes h.held
