-- Which cells are null and which values are taken.
use Rattle.std.proofs.Common.{◌≡◌, refl, sym, ap, ap₂, ◌∙◌, ℕ, ◌+◌, ◌<◌, ◌==◌, ◌||◌, ◌&&◌, Bool, true, false, not, if◌then◌else◌, Option, Some, List, [], ◌∷◌, map, length, replicate, arith, ne_eqb}
use Rattle.std.proofs.lemmas.List.{length-map}
use Rattle.std.proofs.lemmas.List.Sums.{sum_by-cons}
use Rattle.std.specs.List.{zip}
use Rattle.bitmaps.specs.Bits.{bit_of, zeros}
use Rattle.bitmaps.specs.Joined.{set_in_both, set_in_one}
use Rattle.bitmaps.specs.Packing.{packed_bytes}
use Rattle.batch_columns.specs.Made.{validity_bytes}
use Rattle.batch_reading.specs.declared.selection.Selection.{Selection}
use Rattle.batch_reading.specs.Spots.{places_of, marks_of, Spot, spots_at, spots_of, IsSelection}
use Rattle.batch_reading.specs.Taken.{valid_in, is_shown, seen, bit_taken}
use Rattle.batch_reading.proofs.Running.{marks_long, spots_long}

-- ---- nothing is null

zeros_first : (bit : Bool) (bits : List Bool) → zeros (bit ∷ bits) ≡ (if not bit then 1 else 0) + zeros bits
zeros_first bit bits = sum_by-cons (λ b. if not b then 1 else 0) bit bits

set_first : (bit : Bool) (bits : List Bool) → zeros (bit ∷ bits) ≡ 0 → (bit ≡ true) × (zeros bits ≡ 0)
set_first true bits none = (refl, omega (arith, zeros_first true bits, none))
set_first false bits none = absurd (omega (arith, zeros_first false bits, none))

-- where no cell is null, the values that are selected are taken
seen_shown : (mark valid : Bool) → not mark || valid ≡ true → mark && valid ≡ mark
seen_shown true valid shown = shown
seen_shown false valid shown = refl

pub all_seen : (validity : List ℕ) (spots : List Spot) → zeros (map (is_shown validity) spots) ≡ 0 → map (seen validity) spots ≡ spots
all_seen validity [] none = refl
all_seen validity (spot ∷ spots) none =
    let first = set_first (is_shown validity spot) (map (is_shown validity) spots) none in
    ap₂ (λ mark rest. (spot.0, mark) ∷ rest) (seen_shown spot.1 (valid_in validity spot.0) first.0) (all_seen validity spots first.1)

-- nothing is null where there is no bitmap
shown_valid : (mark valid : Bool) → valid ≡ true → not mark || valid ≡ true
shown_valid true valid is = is
shown_valid false valid is = refl

pub none_null : (validity : List ℕ) (spots : List Spot) → validity ≡ [] → zeros (map (is_shown validity) spots) ≡ 0
none_null validity [] is = refl
none_null validity (spot ∷ spots) is =
    let first : is_shown validity spot ≡ true =
    shown_valid spot.1 (valid_in validity spot.0) (ap (λ bytes. valid_in bytes spot.0) is) in
    let one : zeros (is_shown validity spot ∷ map (is_shown validity) spots) ≡ zeros (true ∷ map (is_shown validity) spots) =
    ap (λ bit. zeros (bit ∷ map (is_shown validity) spots)) first in
    omega (arith, one, zeros_first true (map (is_shown validity) spots), none_null validity spots is)

-- ---- marked bits

-- the bits of marked places
kept_bit : (mark bit : Bool) → bit && mark ≡ (if mark then bit else false)
kept_bit true true = refl
kept_bit true false = refl
kept_bit false true = refl
kept_bit false false = refl

pub kept_bits : (bytes places : List ℕ) (marks : List Bool) → length marks ≡ length places
    → set_in_both (map (bit_of bytes) places) marks ≡ map (bit_taken bytes false) (zip places marks)
kept_bits bytes [] marks same = refl
kept_bits bytes (p ∷ ps) [] same = absurd (omega (arith, same))
kept_bits bytes (p ∷ ps) (mark ∷ marks) same =
    ap₂ (λ bit rest. bit ∷ rest) (kept_bit mark (bit_of bytes p)) (kept_bits bytes ps marks (omega (arith, same)))

-- and set bits for the others
turned_bit : (mark bit : Bool) → (if (if true then not mark else mark) then not (if mark then bit else false) else (if mark then bit else false)) ≡ (if mark then bit else true)
turned_bit true true = refl
turned_bit true false = refl
turned_bit false bit = refl

turned : (bytes places : List ℕ) (marks : List Bool) → length marks ≡ length places
    → set_in_one (set_in_one (replicate (length marks) true) marks) (map (bit_taken bytes false) (zip places marks)) ≡ map (bit_taken bytes true) (zip places marks)
turned bytes [] [] same = refl
turned bytes [] (mark ∷ marks) same = absurd (omega (arith, same))
turned bytes (p ∷ ps) [] same = absurd (omega (arith, same))
turned bytes (p ∷ ps) (mark ∷ marks) same =
    ap₂ (λ bit rest. bit ∷ rest) (turned_bit mark (bit_of bytes p)) (turned bytes ps marks (omega (arith, same)))

module _ (limit : ℕ) (selection : Selection) (is : IsSelection limit selection) (bytes : List ℕ) (marks bits : List Bool) (there : selection.there.now ≡ Some marks) where
  marks_as_long : length marks ≡ length (places_of selection.runs.now)
  marks_as_long =
      ap (λ there. length (marks_of selection.count there)) (sym there) ∙ marks_long selection.count selection.there.now is.marked ∙ is.counted

  pub bits_as_long : bits ≡ map (bit_of bytes) (places_of selection.runs.now) → length bits ≡ length marks
  bits_as_long run = ap length run ∙ length-map (places_of selection.runs.now) (bit_of bytes) ∙ sym marks_as_long

  pub bits_kept : bits ≡ map (bit_of bytes) (places_of selection.runs.now) → set_in_both bits marks ≡ map (bit_taken bytes false) (spots_of selection)
  bits_kept run =
      ap (λ l. set_in_both l marks) run ∙ kept_bits bytes (places_of selection.runs.now) marks marks_as_long
      ∙ ap (λ there. map (bit_taken bytes false) (spots_at selection.runs.now selection.count there)) (sym there)

  pub bits_turned : bits ≡ map (bit_taken bytes false) (spots_of selection)
      → set_in_one (set_in_one (replicate (length marks) true) marks) bits ≡ map (bit_taken bytes true) (spots_of selection)
  bits_turned kept =
      ap (set_in_one (set_in_one (replicate (length marks) true) marks))
      (kept ∙ ap (λ there. map (bit_taken bytes false) (spots_at selection.runs.now selection.count there)) there)
      ∙ turned bytes (places_of selection.runs.now) marks marks_as_long
      ∙ ap (λ there. map (bit_taken bytes true) (spots_at selection.runs.now selection.count there)) (sym there)

-- ---- bits of a bitmap

valid_bit : (validity : List ℕ) (j : ℕ) → 0 < length validity → valid_in validity j ≡ bit_of validity j
valid_bit validity j some =
    ap (λ empty. empty || bit_of validity j) (ne_eqb (length validity) 0 (λ e. omega (arith, e, some)))

shown_bit : (mark bit : Bool) → (if mark then bit else true) ≡ not mark || bit
shown_bit true bit = refl
shown_bit false bit = refl

seen_bit : (mark bit : Bool) → (if mark then bit else false) ≡ mark && bit
seen_bit true bit = refl
seen_bit false bit = refl

pub bits_shown : (validity : List ℕ) (spots : List Spot) → 0 < length validity → map (bit_taken validity true) spots ≡ map (is_shown validity) spots
bits_shown validity [] some = refl
bits_shown validity (spot ∷ spots) some =
    ap₂ (λ bit rest. bit ∷ rest)
    (shown_bit spot.1 (bit_of validity spot.0) ∙ ap (λ valid. not spot.1 || valid) (sym (valid_bit validity spot.0 some)))
    (bits_shown validity spots some)

zip_seen : (validity places : List ℕ) (marks : List Bool) → 0 < length validity → length marks ≡ length places
    → zip places (map (bit_taken validity false) (zip places marks)) ≡ map (seen validity) (zip places marks)
zip_seen validity [] marks some same = refl
zip_seen validity (p ∷ ps) [] some same = absurd (omega (arith, same))
zip_seen validity (p ∷ ps) (mark ∷ marks) some same =
    ap₂ (λ bit rest. (p, bit) ∷ rest)
    (seen_bit mark (bit_of validity p) ∙ ap (λ valid. mark && valid) (sym (valid_bit validity p some)))
    (zip_seen validity ps marks some (omega (arith, same)))

module _ (limit : ℕ) (selection : Selection) (is : IsSelection limit selection) (validity : List ℕ) where
  -- the marks that were made
  pub bits_seen : (taken : List Bool) → 0 < length validity → taken ≡ map (bit_taken validity false) (spots_of selection)
      → spots_at selection.runs.now selection.count (Some taken) ≡ map (seen validity) (spots_of selection)
  bits_seen taken some made =
      ap (zip (places_of selection.runs.now)) made
      ∙ zip_seen validity (places_of selection.runs.now) (marks_of selection.count selection.there.now) some
      (marks_long selection.count selection.there.now is.marked ∙ is.counted)

  pub bits_marked : (taken : List Bool) → taken ≡ map (bit_taken validity false) (spots_of selection) → length taken ≡ selection.count
  bits_marked taken made =
      ap length made ∙ length-map (spots_of selection) (bit_taken validity false) ∙ spots_long limit selection is

  pub same_seen : (marks : Option (List Bool)) → marks ≡ selection.there.now → zeros (map (is_shown validity) (spots_of selection)) ≡ 0
      → spots_at selection.runs.now selection.count marks ≡ map (seen validity) (spots_of selection)
  same_seen marks same none =
      ap (spots_at selection.runs.now selection.count) same ∙ sym (all_seen validity (spots_of selection) none)

pub no_validity : (bits : List Bool) → zeros bits ≡ 0 → validity_bytes bits ≡ []
no_validity bits none = ap (λ n. if n == 0 then [] else packed_bytes bits) none

pub some_validity : (bits : List Bool) → 0 < zeros bits → validity_bytes bits ≡ packed_bytes bits
some_validity bits some =
    ap (λ empty. if empty then [] else packed_bytes bits) (ne_eqb (zeros bits) 0 (λ e. omega (arith, e, some)))
