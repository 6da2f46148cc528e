-- Runs of bits as lists.
use Rattle.std.proofs.Common.{◌≡◌, refl, sym, ap, ◌∙◌, ℕ, ◌+◌, ◌-◌, ◌<◌, ◌≤◌, Bool, false, arith, List, [], ◌∷◌, ◌++◌, get_or, length, inl, inr, ◌⊎◌, Some, None, slice_get, length-append, ext_get_or}
use Rattle.std.proofs.lemmas.Bool.{cases_lt}
use Rattle.std.proofs.lemmas.List.{get_or_append_left}
use Rattle.std.proofs.Math.Seq.{get_or-append_right}
use Rattle.std.proofs.Math.ListN.{get_or-eq_default}
use Rattle.std.proofs.lemmas.Option.{slice_get-get_or, slice_get_past}
use Rattle.std.proofs.lemmas.List.FromFn.{length-map-range_with_len, get_or-map-range_with_len}
use Rattle.bitmaps.specs.Bits.{bit_of, bits_of}
use Rattle.bitmaps.specs.Packed.{IsPacked, IsKept}

pub length_bits : (bytes : List ℕ) (start count : ℕ) → length (bits_of bytes start count) ≡ count
length_bits bytes start count = length-map-range_with_len (bit_of bytes) start count

pub get_bits : (bytes : List ℕ) (start count i : ℕ) (d : Bool) → i < count → get_or (bits_of bytes start count) i d ≡ bit_of bytes (start + i)
get_bits bytes start count i d within = get_or-map-range_with_len (bit_of bytes) start count i (start + i) d within refl

pub get_first : (bytes : List ℕ) (count i : ℕ) (d : Bool) → i < count → get_or (bits_of bytes 0 count) i d ≡ bit_of bytes i
get_first bytes count i d within = get_or-map-range_with_len (bit_of bytes) 0 count i i d within (omega arith)

-- lists of one length with the same bits
pub same_bits : (xs ys : List Bool) → length xs ≡ length ys → ((i : ℕ) → i < length xs → get_or xs i false ≡ get_or ys i false) → xs ≡ ys
same_bits xs ys = ext_get_or false xs ys

-- bits that are put behind others
pub grown : (old new : List ℕ) (from count : ℕ) (more : List Bool) → length more ≡ count
    → ((j : ℕ) → j < from → bit_of new j ≡ bit_of old j)
    → ((i : ℕ) → i < count → bit_of new (from + i) ≡ get_or more i false)
    → bits_of new 0 (from + count) ≡ bits_of old 0 from ++ more
grown old new from count more all before put =
    same_bits (bits_of new 0 (from + count)) (bits_of old 0 from ++ more)
    (omega (arith, length_bits new 0 (from + count), length_bits old 0 from, length-append (bits_of old 0 from) more))
    (λ i within. at i (omega (arith, length_bits new 0 (from + count))) (cases_lt i from))
  where
    at : (i : ℕ) → i < from + count → (i < from) ⊎ (from ≤ i) → get_or (bits_of new 0 (from + count)) i false ≡ get_or (bits_of old 0 from ++ more) i false
    at i within (inl below) =
        get_first new (from + count) i false within ∙ before i below ∙ sym (get_first old from i false below)
        ∙ sym (get_or_append_left (bits_of old 0 from) more false i (omega (arith, length_bits old 0 from)))
    at i within (inr behind) =
        let place : i ≡ from + (i - from) = omega arith in
        let length_is = length_bits old 0 from in
        get_first new (from + count) i false within ∙ ap (bit_of new) place ∙ put (i - from) (omega arith)
        ∙ ap (λ k. get_or more (i - k) false) (sym length_is)
        ∙ sym (get_or-append_right (bits_of old 0 from) more i false (omega (arith, length_is)))

-- one bit behind others
pub grown_by_one : (old new : List ℕ) (from to : ℕ) (bit : Bool) → to ≡ from + 1
    → ((j : ℕ) → j < from → bit_of new j ≡ bit_of old j) → bit_of new (from + 0) ≡ bit
    → bits_of new 0 to ≡ bits_of old 0 from ++ bit ∷ []
grown_by_one old new from to bit is before put =
    ap (bits_of new 0) is ∙ grown old new from 1 (bit ∷ []) refl before only
  where
    only : (i : ℕ) → i < 1 → bit_of new (from + i) ≡ get_or (bit ∷ []) i false
    only i within = let first : i ≡ 0 = omega arith in rw first put

-- a look at one of the bits
pub found : (bytes : List ℕ) (count index : ℕ) → index < count → Some (bit_of bytes index) ≡ slice_get (bits_of bytes 0 count) index
found bytes count index within =
    sym (slice_get-get_or (bits_of bytes 0 count) index false (omega (arith, length_bits bytes 0 count)) ∙ ap Some (get_first bytes count index false within))

pub not_found : (bytes : List ℕ) (count index : ℕ) → count ≤ index → None ≡ slice_get (bits_of bytes 0 count) index
not_found bytes count index past = sym (slice_get_past (bits_of bytes 0 count) index (omega (arith, length_bits bytes 0 count)))

-- what is kept is the packed form
pub packed : (bytes : List ℕ) (count : ℕ) → IsKept bytes count → IsPacked (bits_of bytes 0 count) bytes
packed bytes count kept = record {
  enough = omega (arith, kept.enough, length_bits bytes 0 count);
  held = λ j. at j (cases_lt j count);
}
  where
    at : (j : ℕ) → (j < count) ⊎ (count ≤ j) → bit_of bytes j ≡ get_or (bits_of bytes 0 count) j false
    at j (inl within) = sym (get_first bytes count j false within)
    at j (inr past) = kept.clear j past ∙ sym (get_or-eq_default (bits_of bytes 0 count) false (omega (arith, length_bits bytes 0 count)))
