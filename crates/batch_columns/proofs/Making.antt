-- Columns that are made of cells keep what a column keeps.
use Rattle.std.proofs.Common.{◌≡◌, refl, sym, ap, ap₂, subst, ◌∙◌, ℕ, zero, suc, ◌+◌, ◌-◌, ◌<◌, ◌≤◌, ◌^◌, ◌==◌, Bool, true, false, not, if◌then◌else◌, List, [], ◌∷◌, ◌++◌, map, length, get_or, take, replicate, arith}
use Rattle.std.proofs.lemmas.List.{map_more, map_push, length_push, length-append, append-nil, take-map, take_all}
use Rattle.std.proofs.lemmas.Grind.{flat_map-append}
use Rattle.std.specs.Borrow.{Bor}
use Rattle.byteorder.specs.Endian.{little_bytes}
use Rattle.std.specs.List.{AllByRecursion, flat_map, sum_by, range_with_len, list_all}
use Rattle.std.specs.Str.{IsUtf8}
use Rattle.std.proofs.lemmas.Bool.{and_parts, eqb-true}
use Rattle.std.specs.Option.{is_some}
use Rattle.std.proofs.Common.{Option, Some, None}
use Rattle.std.proofs.lemmas.List.Sums.{sum_by-cons, sum_by-take-le}
use Rattle.bitmaps.specs.Bits.{zeros}
use Rattle.bitmaps.specs.Packing.{packed_bytes}
use Rattle.batch_types.specs.Cells.{Cell, null_cell}
use Rattle.batch_types.specs.Layouts.{null_layout, bits_layout, bytes_layout, binary_layout, utf8_layout}
use Rattle.batch_types.specs.Canonical.{is_null, nulls_of, validity_of, bit_in, bytes_or, bytes_lengths, offsets_of}
use Rattle.batch_types.specs.Typed.{IsCellOf, AreBytes}
use Rattle.batch_types.specs.Shapes.{shape, Shapes, no_shape}
use Rattle.batch_columns.specs.Contents.{Contents}
use Rattle.batch_columns.specs.Held.{shapes_held}
use Rattle.batch_columns.specs.Kept.{IsKept}
use Rattle.batch_columns.specs.Made.{bit_or_null, bytes_or_null, bytes_in, has_size, validity_bytes}

nulls_first : (cell : Cell) (cells : List Cell) (null : Bool) → is_null cell ≡ null → nulls_of (cell ∷ cells) ≡ (if null then 1 else 0) + nulls_of cells
nulls_first cell cells null is =
    sum_by-cons (λ x. if is_null x then 1 else 0) cell cells ∙ ap (λ test. (if test then 1 else 0) + nulls_of cells) is

-- ---- nulls alone

all_null : (n : ℕ) → nulls_of (replicate n null_cell) ≡ n
all_null zero = refl
all_null (suc n) =
    let first : nulls_of (null_cell ∷ replicate n null_cell) ≡ 1 + nulls_of (replicate n null_cell) = nulls_first null_cell (replicate n null_cell) true refl in
    omega (arith, first, all_null n)

nulls_fit : (n : ℕ) → AllByRecursion (IsCellOf (shape null_layout no_shape)) (replicate n null_cell)
nulls_fit zero = tt
nulls_fit (suc n) = (tt, nulls_fit n)

pub nulls_kept : (n : ℕ) → IsKept null_layout (replicate n null_cell) n [] [] [] []
nulls_kept n = record {
  nulls_counted = sym (all_null n);
  validity_kept = refl;
  offsets_kept = refl;
  values_kept = refl;
  fit = nulls_fit n;
  held_inside = refl;
  room = tt;
}

pub nulls_kept_as : (n : ℕ) (validity offsets values : List ℕ) (inside : List Contents) → validity ≡ [] → offsets ≡ [] → values ≡ [] → inside ≡ []
    → IsKept null_layout (replicate n null_cell) n validity offsets values inside
nulls_kept_as n validity offsets values inside v s t i =
    subst (λ x. IsKept null_layout (replicate n null_cell) n x offsets values inside) (sym v)
    (subst (λ x. IsKept null_layout (replicate n null_cell) n [] x values inside) (sym s)
    (subst (λ x. IsKept null_layout (replicate n null_cell) n [] [] x inside) (sym t)
    (subst (IsKept null_layout (replicate n null_cell) n [] [] []) (sym i) (nulls_kept n))))

-- ---- cells that may be there

-- a cell is null where there is none
module _ {X : Type 0} (f : Option X → Cell) (null : (o : Option X) → is_null (f o) ≡ not (is_some o)) where
  pub nulls_marked : (cells : List (Option X)) → nulls_of (map f cells) ≡ zeros (map is_some cells)
  nulls_marked [] = refl
  nulls_marked (o ∷ cells) =
      nulls_first (f o) (map f cells) (not (is_some o)) (null o)
      ∙ ap (λ n. (if not (is_some o) then 1 else 0) + n) (nulls_marked cells)
      ∙ sym (sum_by-cons (λ bit. if not bit then 1 else 0) (is_some o) (map is_some cells))

  pub marked : (cells : List (Option X)) → map (λ cell. not (is_null cell)) (map f cells) ≡ map is_some cells
  marked [] = refl
  marked (o ∷ cells) = ap₂ (λ b bs. b ∷ bs) (ap not (null o) ∙ not_not (is_some o)) (marked cells)
    where
      not_not : (b : Bool) → not (not b) ≡ b
      not_not true = refl
      not_not false = refl

  pub validity_marked : (cells : List (Option X)) → validity_of (map f cells) ≡ validity_bytes (map is_some cells)
  validity_marked cells =
      ap₂ (λ n bits. if n == 0 then [] else packed_bytes bits) (nulls_marked cells) (marked cells)

-- ---- bits

bit_null : (o : Option Bool) → is_null (bit_or_null o) ≡ not (is_some o)
bit_null None = refl
bit_null (Some bit) = refl

bits_fit : (inside : Shapes) (cells : List (Option Bool)) → AllByRecursion (IsCellOf (shape bits_layout inside)) (map bit_or_null cells)
bits_fit inside [] = tt
bits_fit inside (None ∷ cells) = (tt, bits_fit inside cells)
bits_fit inside (Some bit ∷ cells) = (tt, bits_fit inside cells)

mapped : (cells : List (Option Bool)) → map bit_in (map bit_or_null cells) ≡ map (λ cell. bit_in (bit_or_null cell)) cells
mapped [] = refl
mapped (o ∷ cells) = ap (λ bits. bit_in (bit_or_null o) ∷ bits) (mapped cells)

pub bits_kept : (cells : List (Option Bool)) (nulls : ℕ) (validity offsets values : List ℕ) (inside : List Contents) → nulls ≡ zeros (map is_some cells)
    → validity ≡ validity_bytes (map is_some cells) → offsets ≡ [] → values ≡ packed_bytes (map (λ cell. bit_in (bit_or_null cell)) cells) → inside ≡ []
    → IsKept bits_layout (map bit_or_null cells) nulls validity offsets values inside
bits_kept cells nulls validity offsets values inside n v s t i = record {
  nulls_counted = n ∙ sym (nulls_marked bit_or_null bit_null cells);
  validity_kept = v ∙ sym (validity_marked bit_or_null bit_null cells);
  offsets_kept = s;
  values_kept = t ∙ ap packed_bytes (sym (mapped cells));
  fit = bits_fit (shapes_held inside) cells;
  held_inside = i;
  room = tt;
}

-- ---- offsets

-- a function's lists in order are another's where the two agree
same_lists_on : (f g : ℕ → List ℕ) (start n : ℕ) → ((j : ℕ) → start ≤ j → j < start + n → f j ≡ g j)
    → flat_map f (range_with_len start n) ≡ flat_map g (range_with_len start n)
same_lists_on f g start zero same = refl
same_lists_on f g start (suc n) same =
    ap₂ (λ x y. x ++ y) (same start (omega arith) (omega arith))
    (same_lists_on f g (start + 1) n (λ j from within. same j (omega (arith, from)) (omega (arith, within))))

taken : (ns : List ℕ) (n j : ℕ) → j ≤ length ns → take j (ns ++ n ∷ []) ≡ take j ns
taken ns n zero within = refl
taken [] n (suc j) within = absurd (omega (arith, within))
taken (m ∷ ns) n (suc j) within = ap (λ rest. m ∷ rest) (taken ns n j (omega (arith, within)))

counting_more : (start n j : ℕ) → start + n ≡ j → range_with_len start (suc n) ≡ range_with_len start n ++ j ∷ []
counting_more start zero j e = let same : start ≡ j = omega (arith, e) in ap (λ k. k ∷ []) same
counting_more start (suc n) j e = ap (λ l. start ∷ l) (counting_more (start + 1) n j (omega (arith, e)))

-- one value more is one offset more
offsets_push : (ns : List ℕ) (n : ℕ) → offsets_of 4 (ns ++ n ∷ []) ≡ offsets_of 4 ns ++ little_bytes 4 (sum_by (λ x. x) (ns ++ n ∷ []))
offsets_push ns n =
    let more : ℕ → List ℕ = λ j. little_bytes 4 (sum_by (λ x. x) (take j (ns ++ n ∷ []))) in
    let less : ℕ → List ℕ = λ j. little_bytes 4 (sum_by (λ x. x) (take j ns)) in
    let count : ℕ = length ns + 1 in
    let longer : length (ns ++ n ∷ []) + 1 ≡ suc count = omega (arith, length_push ns n) in
    let end : 0 + count ≡ count = omega arith in
    ap (λ k. flat_map more (range_with_len 0 k)) longer
    ∙ ap (flat_map more) (counting_more 0 count count end)
    ∙ flat_map-append more (range_with_len 0 count) (count ∷ [])
    ∙ ap₂ (λ x y. x ++ y)
    (same_lists_on more less 0 count (λ j from within. ap (λ xs. little_bytes 4 (sum_by (λ x. x) xs)) (taken ns n j (omega (arith, within)))))
    (append-nil (more count)
    ∙ ap (λ xs. little_bytes 4 (sum_by (λ x. x) xs)) (take_all count (ns ++ n ∷ []) (omega (arith, length_push ns n))))

lengths_sum : (cells : List Cell) → bytes_in cells ≡ length (flat_map (bytes_or []) cells)
lengths_sum [] = refl
lengths_sum (cell ∷ cells) =
    sum_by-cons (λ n. n) (length (bytes_or [] cell)) (bytes_lengths cells)
    ∙ ap (λ n. length (bytes_or [] cell) + n) (lengths_sum cells)
    ∙ sym (length-append (bytes_or [] cell) (flat_map (bytes_or []) cells))

module _ (cells : List (Option (Bor (List ℕ)))) (k : ℕ) (within : k < length cells) where
  abbrev first : List Cell
  first = map bytes_or_null (take k cells)

  abbrev more : List ℕ
  more = bytes_or [] (bytes_or_null (get_or cells k None))

  one_more : map bytes_or_null (take (k + 1) cells) ≡ first ++ bytes_or_null (get_or cells k None) ∷ []
  one_more = map_more bytes_or_null cells k None within

  bytes_more : flat_map (bytes_or []) (map bytes_or_null (take (k + 1) cells)) ≡ flat_map (bytes_or []) first ++ more
  bytes_more =
      ap (flat_map (bytes_or [])) one_more
      ∙ flat_map-append (bytes_or []) first (bytes_or_null (get_or cells k None) ∷ [])
      ∙ ap (λ xs. flat_map (bytes_or []) first ++ xs) (append-nil more)

  total_more : bytes_in (map bytes_or_null (take (k + 1) cells)) ≡ bytes_in first + length more
  total_more =
      lengths_sum (map bytes_or_null (take (k + 1) cells)) ∙ ap length bytes_more
      ∙ length-append (flat_map (bytes_or []) first) more ∙ ap (λ n. n + length more) (sym (lengths_sum first))

  offsets_more : offsets_of 4 (bytes_lengths (map bytes_or_null (take (k + 1) cells)))
      ≡ offsets_of 4 (bytes_lengths first) ++ little_bytes 4 (length (flat_map (bytes_or []) first ++ more))
  offsets_more =
      let ns : List ℕ = bytes_lengths first in
      let lengths : bytes_lengths (map bytes_or_null (take (k + 1) cells)) ≡ ns ++ length more ∷ [] =
      ap bytes_lengths one_more ∙ map_push (λ c. length (bytes_or [] c)) first (bytes_or_null (get_or cells k None)) in
      ap (offsets_of 4) lengths ∙ offsets_push ns (length more)
      ∙ ap (λ n. offsets_of 4 ns ++ little_bytes 4 n)
      (ap (sum_by (λ x. x)) (sym lengths) ∙ lengths_sum (map bytes_or_null (take (k + 1) cells)) ∙ ap length bytes_more)

  -- no more in the first of some cells than in all
  total_within : bytes_in (map bytes_or_null (take (k + 1) cells)) ≤ bytes_in (map bytes_or_null cells)
  total_within =
      let lengths : bytes_lengths (map bytes_or_null (take (k + 1) cells)) ≡ take (k + 1) (bytes_lengths (map bytes_or_null cells)) =
      ap bytes_lengths (sym (take-map bytes_or_null (k + 1) cells))
      ∙ sym (take-map (λ c. length (bytes_or [] c)) (k + 1) (map bytes_or_null cells)) in
      omega (arith, sum_by-take-le (λ n. n) (bytes_lengths (map bytes_or_null cells)) (k + 1), ap (sum_by (λ n. n)) lengths)

  -- the cells are too long where one of them is, behind those before it
  pub long_at : (total : ℕ) (next : List ℕ) → total ≡ bytes_in first → next ≡ more → 2 ^ 31 - total ≤ length next
      → 2 ^ 31 ≤ bytes_in (map bytes_or_null cells)
  long_at total next t n over = omega (arith, t, ap length n, over, total_more, total_within)

  -- the offsets and the bytes of one cell more
  pub spans_more : (offsets bytes next offsets_then bytes_then : List ℕ) → offsets ≡ offsets_of 4 (bytes_lengths first) → bytes ≡ flat_map (bytes_or []) first
      → next ≡ more → offsets_then ≡ offsets ++ little_bytes 4 (length (bytes ++ next)) → bytes_then ≡ bytes ++ next
      → (offsets_then ≡ offsets_of 4 (bytes_lengths (map bytes_or_null (take (k + 1) cells))))
      × (bytes_then ≡ flat_map (bytes_or []) (map bytes_or_null (take (k + 1) cells)))
  spans_more offsets bytes next offsets_then bytes_then o b n p q =
      let joined : bytes ++ next ≡ flat_map (bytes_or []) first ++ more = ap₂ (λ x y. x ++ y) b n in (
        p ∙ ap₂ (λ x y. x ++ little_bytes 4 (length y)) o joined ∙ sym offsets_more,
        q ∙ joined ∙ sym bytes_more,
      )

-- ---- bytes

bytes_null : (o : Option (Bor (List ℕ))) → is_null (bytes_or_null o) ≡ not (is_some o)
bytes_null None = refl
bytes_null (Some bytes) = refl

binary_fit : (offset : ℕ) (inside : Shapes) (cells : List (Option (Bor (List ℕ))))
    → AllByRecursion (IsCellOf (shape (binary_layout offset) inside)) (map bytes_or_null cells)
binary_fit offset inside [] = tt
binary_fit offset inside (None ∷ cells) = (tt, binary_fit offset inside cells)
binary_fit offset inside (Some bytes ∷ cells) = (tt, binary_fit offset inside cells)

pub binary_kept : (cells : List (Option (Bor (List ℕ)))) (nulls : ℕ) (validity offsets values : List ℕ) (inside : List Contents)
    → bytes_in (map bytes_or_null cells) < 2 ^ 31
    → nulls ≡ zeros (map is_some cells) → validity ≡ validity_bytes (map is_some cells)
    → offsets ≡ offsets_of 4 (bytes_lengths (map bytes_or_null cells)) → values ≡ flat_map (bytes_or []) (map bytes_or_null cells) → inside ≡ []
    → IsKept (binary_layout 4) (map bytes_or_null cells) nulls validity offsets values inside
binary_kept cells nulls validity offsets values inside room n v s t i = record {
  nulls_counted = n ∙ sym (nulls_marked bytes_or_null bytes_null cells);
  validity_kept = v ∙ sym (validity_marked bytes_or_null bytes_null cells);
  offsets_kept = s;
  values_kept = t;
  fit = binary_fit 4 (shapes_held inside) cells;
  held_inside = i;
  room = room;
}

-- ---- texts

all_push : (P : Cell → Type 0) (cells : List Cell) (cell : Cell) → AllByRecursion P cells → P cell → AllByRecursion P (cells ++ cell ∷ [])
all_push P [] cell all one = (one, tt)
all_push P (c ∷ cells) cell all one = (all.0, all_push P cells cell all.1 one)

pub texts_more : (cells : List (Option (Bor (List ℕ)))) (k : ℕ) → k < length cells
    → AllByRecursion (AreBytes IsUtf8) (map bytes_or_null (take k cells)) → AreBytes IsUtf8 (bytes_or_null (get_or cells k None))
    → AllByRecursion (AreBytes IsUtf8) (map bytes_or_null (take (k + 1) cells))
texts_more cells k within all one =
    subst (AllByRecursion (AreBytes IsUtf8)) (sym (one_more cells k within))
    (all_push (AreBytes IsUtf8) (map bytes_or_null (take k cells)) (bytes_or_null (get_or cells k None)) all one)

texts_fit : (offset : ℕ) (inside : Shapes) (cells : List Cell) → AllByRecursion (AreBytes IsUtf8) cells
    → AllByRecursion (IsCellOf (shape (utf8_layout offset) inside)) cells
texts_fit offset inside [] all = tt
texts_fit offset inside (cell ∷ cells) all = (all.0, texts_fit offset inside cells all.1)

pub texts_kept : (cells : List (Option (Bor (List ℕ)))) (nulls : ℕ) (validity offsets values : List ℕ) (inside : List Contents)
    → bytes_in (map bytes_or_null cells) < 2 ^ 31 → AllByRecursion (AreBytes IsUtf8) (map bytes_or_null cells)
    → nulls ≡ zeros (map is_some cells) → validity ≡ validity_bytes (map is_some cells)
    → offsets ≡ offsets_of 4 (bytes_lengths (map bytes_or_null cells)) → values ≡ flat_map (bytes_or []) (map bytes_or_null cells) → inside ≡ []
    → IsKept (utf8_layout 4) (map bytes_or_null cells) nulls validity offsets values inside
texts_kept cells nulls validity offsets values inside room texts n v s t i = record {
  nulls_counted = n ∙ sym (nulls_marked bytes_or_null bytes_null cells);
  validity_kept = v ∙ sym (validity_marked bytes_or_null bytes_null cells);
  offsets_kept = s;
  values_kept = t;
  fit = texts_fit 4 (shapes_held inside) (map bytes_or_null cells) texts;
  held_inside = i;
  room = room;
}

-- ---- bytes of one size

pub blocks_more : (size : ℕ) (cells : List (Option (Bor (List ℕ)))) (k : ℕ) → k < length cells → (bytes bytes_then : List ℕ)
    → bytes ≡ flat_map (bytes_or (replicate size 0)) (map bytes_or_null (take k cells))
    → bytes_then ≡ bytes ++ bytes_or (replicate size 0) (bytes_or_null (get_or cells k None))
    → bytes_then ≡ flat_map (bytes_or (replicate size 0)) (map bytes_or_null (take (k + 1) cells))
blocks_more size cells k within bytes bytes_then b t =
    let more : List ℕ = bytes_or (replicate size 0) (bytes_or_null (get_or cells k None)) in
    let before : List Cell = map bytes_or_null (take k cells) in
    t ∙ ap (λ xs. xs ++ more) b ∙ ap (λ xs. flat_map (bytes_or (replicate size 0)) before ++ xs) (sym (append-nil more))
    ∙ sym (flat_map-append (bytes_or (replicate size 0)) before (bytes_or_null (get_or cells k None) ∷ []))
    ∙ ap (flat_map (bytes_or (replicate size 0))) (sym (one_more cells k within))

sized_fit : (size : ℕ) (inside : Shapes) (cells : List (Option (Bor (List ℕ)))) → list_all (has_size size) cells ≡ true
    → AllByRecursion (IsCellOf (shape (bytes_layout size) inside)) (map bytes_or_null cells)
sized_fit size inside [] all = tt
sized_fit size inside (None ∷ cells) all = (tt, sized_fit size inside cells all)
sized_fit size inside (Some bytes ∷ cells) all =
    let parts = and_parts (length bytes.now == size) (list_all (has_size size) cells) all in
    (eqb-true (length bytes.now) size parts.0, sized_fit size inside cells parts.1)

pub sized_kept : (size : ℕ) (cells : List (Option (Bor (List ℕ)))) (nulls : ℕ) (validity offsets values : List ℕ) (inside : List Contents)
    → list_all (has_size size) cells ≡ true → nulls ≡ zeros (map is_some cells) → validity ≡ validity_bytes (map is_some cells)
    → offsets ≡ [] → values ≡ flat_map (bytes_or (replicate size 0)) (map bytes_or_null cells) → inside ≡ []
    → IsKept (bytes_layout size) (map bytes_or_null cells) nulls validity offsets values inside
sized_kept size cells nulls validity offsets values inside sizes n v s t i = record {
  nulls_counted = n ∙ sym (nulls_marked bytes_or_null bytes_null cells);
  validity_kept = v ∙ sym (validity_marked bytes_or_null bytes_null cells);
  offsets_kept = s;
  values_kept = t;
  fit = sized_fit size (shapes_held inside) cells sizes;
  held_inside = i;
  room = tt;
}
