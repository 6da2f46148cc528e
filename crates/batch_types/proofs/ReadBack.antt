-- What is laid down of the cells of a column, read again.
use Rattle.std.proofs.Common.{◌≡◌, ◌≢◌, refl, sym, ap, ◌∙◌, subst, ℕ, zero, suc, ◌+◌, ◌-◌, ◌*◌, ◌/◌, ◌^◌, ◌<◌, ◌≤◌, ◌==◌, ◌||◌, pos, ◌-ℤ◌, nat_abs, ◌≤ℤ◌, Bool, true, false, not, if◌then◌else◌, List, [], ◌∷◌, ◌++◌, length, get_or, map, take, drop, replicate, arith, length-append}
use Rattle.std.specs.List.{AllByRecursion, range_with_len, flat_map, sum_by}
use Rattle.std.proofs.lemmas.Int.{ints}
use Rattle.std.proofs.lemmas.Bool.{lt-ltb, eqb-true}
use Rattle.std.proofs.lemmas.List.{append-nil, get_or-map, length-map}
use Rattle.std.proofs.lemmas.List.FromFn.{get_or-range_with_len, length-range_with_len}
use Rattle.std.proofs.lemmas.List.Sums.{sum_by-cons, sum_by-take-le, sum_by_more}
use Rattle.std.proofs.lemmas.Nat.{pow-add}
use Rattle.std.proofs.Math.Dec.{eqb-suc-zero}
use Rattle.std.proofs.Math.ListN.{get_or-map as get_or_map}
use Rattle.std.proofs.Math.Nat.{mul-suc, pow-suc}
use Rattle.std.proofs.Math.Pow.{pow_mono}
use Rattle.std.proofs.Math.Seq.{take-append_seam, drop-append-add}
use Rattle.byteorder.specs.Endian.{little_number, little_bytes, twos_complement}
use Rattle.byteorder.specs.Numbers.{little_number-reads_back, length-bytes_low_first}
use Rattle.bitmaps.specs.Bits.{bit_of}
use Rattle.bitmaps.specs.Packed.{IsPacked}
use Rattle.bitmaps.specs.Packing.{packed_bytes}
use Rattle.batch_types.specs.Cells.{Cell, null_cell, bit_cell, bytes_cell, list_cell, tuple_cell}
use Rattle.batch_types.specs.Typed.{AreBytes}
use Rattle.batch_types.specs.Rules.{DoRise}
use Rattle.batch_types.specs.Layouts.{Layout, null_layout, bits_layout, bytes_layout, binary_layout, utf8_layout, list_layout, fixed_size_list_layout, struct_layout}
use Rattle.batch_types.specs.Placed.{bytes_from, is_valid, offset_at, start_of, length_of, value_bytes}
use Rattle.batch_types.specs.Canonical.{is_null, bit_in, bytes_or, elements_or, nulls_of, validity_of, offsets_of, bytes_lengths, elements_lengths}

-- ---- pieces laid one behind the other

-- each stands where those before it end
pub piece : {X A : Type 0} (f : X → List A) (xs : List X) (j : ℕ) (d : X) → j < length xs
    → take (length (f (get_or xs j d))) (drop (length (flat_map f (take j xs))) (flat_map f xs)) ≡ f (get_or xs j d)
piece f [] j d within = absurd (omega arith)
piece f (x ∷ xs) zero d within = take-append_seam (f x) (flat_map f xs)
piece f (x ∷ xs) (suc j) d within =
    ap (λ n. take (length (f (get_or xs j d))) (drop n (f x ++ flat_map f xs))) (length-append (f x) (flat_map f (take j xs)))
    ∙ ap (take (length (f (get_or xs j d)))) (drop-append-add (f x) (flat_map f xs) (length (flat_map f (take j xs))))
    ∙ piece f xs j d (omega arith)

-- those before it are as long as their lengths say
sum_of_lengths : {X A : Type 0} (f : X → List A) (xs : List X) (j : ℕ)
    → sum_by (λ n. n) (take j (map (λ x. length (f x)) xs)) ≡ length (flat_map f (take j xs))
sum_of_lengths f xs zero = refl
sum_of_lengths f [] (suc j) = refl
sum_of_lengths f (x ∷ xs) (suc j) =
    sum_by-cons (λ n. n) (length (f x)) (take j (map (λ x. length (f x)) xs))
    ∙ ap (λ n. length (f x) + n) (sum_of_lengths f xs j)
    ∙ sym (length-append (f x) (flat_map f (take j xs)))

-- pieces of one size stand at the multiples of it
even_start : {X A : Type 0} (f : X → List A) (size : ℕ) (xs : List X) (j : ℕ)
    → AllByRecursion (λ x. length (f x) ≡ size) xs → j ≤ length xs → length (flat_map f (take j xs)) ≡ size * j
even_start f size xs zero even within = omega arith
even_start f size [] (suc j) even within = absurd (omega arith)
even_start f size (x ∷ xs) (suc j) even within =
    let rest : length (flat_map f (take j xs)) ≡ size * j = even_start f size xs j even.1 (omega arith) in
    let more : size * suc j ≡ size * j + size = mul-suc size j in
    omega (arith, length-append (f x) (flat_map f (take j xs)), rest, more, even.0)

-- what holds of each holds of one
pub all_at : {X : Type 0} (P : X → Type 0) (xs : List X) (j : ℕ) (d : X) → AllByRecursion P xs → j < length xs → P (get_or xs j d)
all_at P [] j d all within = absurd (omega arith)
all_at P (x ∷ xs) zero d all within = all.0
all_at P (x ∷ xs) (suc j) d all within = all_at P xs j d all.1 (omega arith)

pub even_piece : {X A : Type 0} (f : X → List A) (size : ℕ) (xs : List X) (j : ℕ) (d : X)
    → AllByRecursion (λ x. length (f x) ≡ size) xs → j < length xs
    → take size (drop (size * j) (flat_map f xs)) ≡ f (get_or xs j d)
even_piece f size xs j d even within =
    ap (λ n. take n (drop (size * j) (flat_map f xs))) (sym (all_at (λ x. length (f x) ≡ size) xs j d even within))
    ∙ ap (λ n. take (length (f (get_or xs j d))) (drop n (flat_map f xs))) (sym (even_start f size xs j even (omega arith)))
    ∙ piece f xs j d within

-- ---- offsets

-- two ways to write how many numbers so many bytes have
bytes_and_bits : (n : ℕ) → 256 ^ n ≡ 2 ^ (8 * n)
bytes_and_bits zero = refl
bytes_and_bits (suc n) =
    let e : 8 * suc n ≡ 8 * n + 8 = omega arith in
    rw (pow-suc 256 n, bytes_and_bits n, e, pow-add 2 (8 * n) 8) refl

-- a number that is not too large is read as it was written
number_back : (size n : ℕ) → n < 2 ^ (8 * size - 1) → twos_complement size (little_number size (little_bytes size n)) ≡ pos n
number_back size n small =
    let wider : 2 ^ (8 * size - 1) ≤ 2 ^ (8 * size) = pow_mono (omega arith) in
    let within : n < 256 ^ size = omega (arith, bytes_and_bits size, wider, small) in
    let back : little_number size (little_bytes size n) ≡ n =
    ap (little_number size) (sym (append-nil (little_bytes size n))) ∙ little_number-reads_back size n [] within in
    ap (twos_complement size) back ∙ ap (λ t. if t then pos n else pos n -ℤ pos (2 ^ (8 * size))) (lt-ltb n (2 ^ (8 * size - 1)) small)

module _ (size : ℕ) (lengths : List ℕ) where
  abbrev sum_to : ℕ → ℕ
  sum_to j = sum_by (λ n. n) (take j lengths)

  pub numbers_even : (js : List ℕ) → AllByRecursion (λ j. length (little_bytes size (sum_to j)) ≡ size) js
  numbers_even [] = tt
  numbers_even (j ∷ js) = (length-bytes_low_first 0 size (sum_to j), numbers_even js)

  offset_bytes : (j : ℕ) → j ≤ length lengths → bytes_from (offsets_of size lengths) (size * j) size ≡ little_bytes size (sum_to j)
  offset_bytes j within =
      let place : get_or (range_with_len 0 (length lengths + 1)) j 0 ≡ j =
      get_or-range_with_len 0 (length lengths + 1) j 0 (omega arith) ∙ (omega arith) in
      even_piece (λ j. little_bytes size (sum_to j)) size (range_with_len 0 (length lengths + 1)) j 0
      (numbers_even (range_with_len 0 (length lengths + 1))) (omega (arith, length-range_with_len 0 (length lengths + 1)))
      ∙ ap (λ j. little_bytes size (sum_to j)) place

  -- offset j is how much stands before value j
  pub offset_is : (j : ℕ) → sum_by (λ n. n) lengths < 2 ^ (8 * size - 1) → j ≤ length lengths
      → offset_at size (offsets_of size lengths) j ≡ pos (sum_by (λ n. n) (take j lengths))
  offset_is j small within =
      ap (λ bytes. twos_complement size (little_number size bytes)) (offset_bytes j within)
      ∙ number_back size (sum_to j) (omega (arith, small, sum_by-take-le (λ n. n) lengths j))

  pub start_is : (j : ℕ) → sum_by (λ n. n) lengths < 2 ^ (8 * size - 1) → j ≤ length lengths
      → start_of size (offsets_of size lengths) j ≡ sum_by (λ n. n) (take j lengths)
  start_is j small within = ap nat_abs (offset_is j small within)

  -- and the next one is farther by the length of value j
  pub length_is : (j : ℕ) → sum_by (λ n. n) lengths < 2 ^ (8 * size - 1) → j < length lengths
      → length_of size (offsets_of size lengths) j ≡ get_or lengths j 0
  length_is j small within =
      omega (arith, start_is (j + 1) small (omega arith), start_is j small (omega arith), sum_by_more (λ n. n) lengths j 0 within)

-- a piece between two offsets
pub offset_piece : {X A : Type 0} (size : ℕ) (f : X → List A) (xs : List X) (j : ℕ) (d : X)
    → sum_by (λ n. n) (map (λ x. length (f x)) xs) < 2 ^ (8 * size - 1) → j < length xs
    → take (length_of size (offsets_of size (map (λ x. length (f x)) xs)) j)
    (drop (start_of size (offsets_of size (map (λ x. length (f x)) xs)) j) (flat_map f xs)) ≡ f (get_or xs j d)
offset_piece size f xs j d small within =
    let lengths : List ℕ = map (λ x. length (f x)) xs in
    let counted : length (map (λ x. length (f x)) xs) ≡ length xs = length-map xs (λ x. length (f x)) in
    let long : length_of size (offsets_of size lengths) j ≡ length (f (get_or xs j d)) =
    length_is size lengths j small (omega (arith, counted)) ∙ get_or-map (λ x. length (f x)) xs j d 0 within in
    let start : start_of size (offsets_of size lengths) j ≡ length (flat_map f (take j xs)) =
    start_is size lengths j small (omega (arith, counted)) ∙ sum_of_lengths f xs j in
    ap (λ n. take n (drop (start_of size (offsets_of size lengths) j) (flat_map f xs))) long
    ∙ ap (λ n. take (length (f (get_or xs j d))) (drop n (flat_map f xs))) start
    ∙ piece f xs j d within

-- none is below zero or below the one before
pub offsets_rise : (size : ℕ) (lengths : List ℕ) → sum_by (λ n. n) lengths < 2 ^ (8 * size - 1)
    → DoRise size (offsets_of size lengths) (length lengths) (sum_by (λ n. n) lengths)
offsets_rise size lengths small = record {
  begins = subst (λ z. pos 0 ≤ℤ z) (sym (offset_is size lengths 0 small (omega arith))) (omega (arith, ints));
  rises = λ j within.
      let more : sum_by (λ n. n) (take (j + 1) lengths) ≡ sum_by (λ n. n) (take j lengths) + get_or lengths j 0 = sum_by_more (λ n. n) lengths j 0 within in
      let here : offset_at size (offsets_of size lengths) j ≡ pos (sum_by (λ n. n) (take j lengths)) = offset_is size lengths j small (omega arith) in
      let next : offset_at size (offsets_of size lengths) (j + 1) ≡ pos (sum_by (λ n. n) (take (j + 1) lengths)) = offset_is size lengths (j + 1) small (omega arith) in
      let step : pos (sum_by (λ n. n) (take j lengths)) ≤ℤ pos (sum_by (λ n. n) (take (j + 1) lengths)) = omega (arith, ints, more) in
      subst (λ z. z ≤ℤ offset_at size (offsets_of size lengths) (j + 1)) (sym here) (subst (λ z. pos (sum_by (λ n. n) (take j lengths)) ≤ℤ z) (sym next) step);
  ends =
      let within : sum_by (λ n. n) (take (length lengths) lengths) ≤ sum_by (λ n. n) lengths = sum_by-take-le (λ n. n) lengths (length lengths) in
      subst (λ z. z ≤ℤ pos (sum_by (λ n. n) lengths)) (sym (offset_is size lengths (length lengths) small (omega arith))) (omega (arith, ints, within));
}

-- ---- bits

no_null : (cells : List Cell) (j : ℕ) → nulls_of cells ≡ 0 → j < length cells → is_null (get_or cells j null_cell) ≡ false
no_null [] j none within = absurd (omega arith)
no_null (null_cell ∷ cells) j none within =
    let one : nulls_of (null_cell ∷ cells) ≡ 1 + nulls_of cells = sum_by-cons (λ cell. if is_null cell then 1 else 0) null_cell cells in
    absurd (omega (arith, one, none))
no_null (bit_cell bit ∷ cells) zero none within = refl
no_null (bytes_cell bytes ∷ cells) zero none within = refl
no_null (list_cell inside ∷ cells) zero none within = refl
no_null (tuple_cell inside ∷ cells) zero none within = refl
no_null (bit_cell bit ∷ cells) (suc j) none within = no_null cells j none (omega arith)
no_null (bytes_cell bytes ∷ cells) (suc j) none within = no_null cells j none (omega arith)
no_null (list_cell inside ∷ cells) (suc j) none within = no_null cells j none (omega arith)
no_null (tuple_cell inside ∷ cells) (suc j) none within = no_null cells j none (omega arith)

not_zero : (n : ℕ) → 0 < n → (n == 0) ≡ false
not_zero zero some = absurd (omega arith)
not_zero (suc n) some = eqb-suc-zero n

module _ (packed : (bits : List Bool) → IsPacked bits (packed_bytes bits)) where
  pub bit_is : (cells : List Cell) (j : ℕ) → bit_of (packed_bytes (map bit_in cells)) j ≡ bit_in (get_or cells j null_cell)
  bit_is cells j = (packed (map bit_in cells)).held j ∙ get_or_map bit_in cells j null_cell

  abbrev valid_bits : List Cell → List Bool
  valid_bits cells = map (λ cell. not (is_null cell)) cells

  valid_by : (b : Bool) (cells : List Cell) (j : ℕ) → (nulls_of cells == 0) ≡ b → j < length cells
      → ((length (if b then [] else packed_bytes (valid_bits cells)) == 0) || bit_of (if b then [] else packed_bytes (valid_bits cells)) j)
      ≡ not (is_null (get_or cells j null_cell))
  valid_by true cells j none within = ap not (sym (no_null cells j (eqb-true (nulls_of cells) 0 none) within))
  valid_by false cells j some within =
      let long : length (packed_bytes (valid_bits cells)) ≡ (length (valid_bits cells) + 7) / 8 = (packed (valid_bits cells)).enough in
      let counted : length (valid_bits cells) ≡ length cells = length-map cells (λ cell. not (is_null cell)) in
      ap (λ b. b || bit_of (packed_bytes (valid_bits cells)) j) (not_zero (length (packed_bytes (valid_bits cells))) (omega (arith, long, counted)))
      ∙ (packed (valid_bits cells)).held j
      ∙ get_or-map (λ cell. not (is_null cell)) cells j null_cell false within

  -- a bitmap says of each value whether it is null, and none says that no value is
  pub valid_is : (layout : Layout) (cells : List Cell) (j : ℕ) → layout ≢ null_layout → j < length cells
      → is_valid layout (validity_of cells) j ≡ not (is_null (get_or cells j null_cell))
  valid_is null_layout cells j bitmap within = absurd (bitmap refl)
  valid_is bits_layout cells j bitmap within = valid_by (nulls_of cells == 0) cells j refl within
  valid_is (bytes_layout size) cells j bitmap within = valid_by (nulls_of cells == 0) cells j refl within
  valid_is (binary_layout offset) cells j bitmap within = valid_by (nulls_of cells == 0) cells j refl within
  valid_is (utf8_layout offset) cells j bitmap within = valid_by (nulls_of cells == 0) cells j refl within
  valid_is (list_layout offset) cells j bitmap within = valid_by (nulls_of cells == 0) cells j refl within
  valid_is (fixed_size_list_layout size) cells j bitmap within = valid_by (nulls_of cells == 0) cells j refl within
  valid_is struct_layout cells j bitmap within = valid_by (nulls_of cells == 0) cells j refl within

-- ---- values

pub length_zeros : (n : ℕ) → length {A = ℕ} (replicate n 0) ≡ n
length_zeros zero = refl
length_zeros (suc n) = ap suc (length_zeros n)

pub even_bytes : (size : ℕ) (cells : List Cell) → AllByRecursion (AreBytes (λ bytes. length bytes ≡ size)) cells
    → AllByRecursion (λ cell. length (bytes_or (replicate size 0) cell) ≡ size) cells
even_bytes size [] all = tt
even_bytes size (null_cell ∷ cells) all = (length_zeros size, even_bytes size cells all.1)
even_bytes size (bytes_cell bytes ∷ cells) all = (all.0, even_bytes size cells all.1)
even_bytes size (bit_cell bit ∷ cells) all = absurd all.0
even_bytes size (list_cell inside ∷ cells) all = absurd all.0
even_bytes size (tuple_cell inside ∷ cells) all = absurd all.0

pub sized_is : (size : ℕ) (cells : List Cell) (j : ℕ) → AllByRecursion (AreBytes (λ bytes. length bytes ≡ size)) cells → j < length cells
    → bytes_from (flat_map (bytes_or (replicate size 0)) cells) (size * j) size ≡ bytes_or (replicate size 0) (get_or cells j null_cell)
sized_is size cells j all within = even_piece (bytes_or (replicate size 0)) size cells j null_cell (even_bytes size cells all) within

pub bytes_are : (size : ℕ) (cells : List Cell) (j : ℕ) → sum_by (λ n. n) (bytes_lengths cells) < 2 ^ (8 * size - 1) → j < length cells
    → value_bytes size (offsets_of size (bytes_lengths cells)) (flat_map (bytes_or []) cells) j ≡ bytes_or [] (get_or cells j null_cell)
bytes_are size cells j small within = offset_piece size (bytes_or []) cells j null_cell small within

pub elements_are : (size : ℕ) (cells : List Cell) (j : ℕ) → sum_by (λ n. n) (elements_lengths cells) < 2 ^ (8 * size - 1) → j < length cells
    → take (length_of size (offsets_of size (elements_lengths cells)) j)
    (drop (start_of size (offsets_of size (elements_lengths cells)) j) (flat_map (elements_or []) cells)) ≡ elements_or [] (get_or cells j null_cell)
elements_are size cells j small within = offset_piece size (elements_or []) cells j null_cell small within
