-- What is selected inside a column lies within the columns inside.
use Rattle.std.proofs.Common.{◌≡◌, inl, inr, refl, sym, ap, subst, ◌∙◌, ℕ, zero, suc, ◌+◌, ◌-◌, ◌*◌, ◌^◌, ◌<◌, ◌≤◌, Bool, true, false, if◌then◌else◌, nat_lt, pos, ◌-ℤ◌, ◌≤ℤ◌, nat_abs, List, [], ◌∷◌, ◌++◌, map, length, get_or, drop, arith, mul-le-mul_left, length-take, length-drop, ext_get_or}
use Rattle.std.proofs.lemmas.Int.{ints}
use Rattle.std.proofs.lemmas.List.{get_or-take, get_or-drop, get_or_past}
use Rattle.std.specs.List.{AllByRecursion, flat_map, range_with_len, zip}
use native.Mathlib.Nat.{mul-suc}
use borrow.Author.Tests.{ltb-true, ltb-false}
use Rattle.byteorder.specs.Endian.{little_bytes, little_number}
use Rattle.batch_types.specs.Placed.{bytes_from, offset_at, start_of, length_of}
use Rattle.batch_types.specs.Rules.{AreOffsetsLong, DoRise as OffsetsDoRise, OffsetsRise}
use Rattle.batch_types.specs.LaysOut.{values_limit}
use Rattle.batch_types.specs.Layouts.{list_layout, fixed_size_list_layout}
use Rattle.batch_reading.specs.declared.selection.Run.{Run}
use Rattle.batch_reading.specs.declared.selection.Selection.{Selection}
use Rattle.batch_reading.specs.declared.plan.ChildSelection.{ChildSelection}
use Rattle.batch_reading.specs.Spots.{DoRun, places_of, marks_of, HasMarks, Spot, spots_at, spots_of, IsSelection}
use Rattle.batch_reading.specs.Spread.{HasSpans}
use Rattle.batch_reading.specs.Taken.{seen}
use Rattle.batch_reading.specs.Planned.{elements_taken, spots_under, spots_inside, AreInside}
use Rattle.batch_reading.proofs.Running.{DoRise, rise_end, places_rise, marks_long}

-- ---- lists

module _ {X : Type 0} (P : X → Type 0) where
  front_all : (xs ys : List X) → AllByRecursion P (xs ++ ys) → AllByRecursion P xs
  front_all [] ys all = tt
  front_all (x ∷ xs) ys all = (all.0, front_all xs ys all.1)

  rest_all : (xs ys : List X) → AllByRecursion P (xs ++ ys) → AllByRecursion P ys
  rest_all [] ys all = all
  rest_all (x ∷ xs) ys all = rest_all xs ys all.1

  pub both_all : (xs ys : List X) → AllByRecursion P xs → AllByRecursion P ys → AllByRecursion P (xs ++ ys)
  both_all [] ys some more = more
  both_all (x ∷ xs) ys some more = (some.0, both_all xs ys some.1 more)

range_end : (start n limit : ℕ) → 0 < n → AllByRecursion (λ p. p < limit) (range_with_len start n) → start + n ≤ limit
range_end start zero limit some all = absurd (omega (arith, some))
range_end start (suc zero) limit some all = omega (arith, all.0)
range_end start (suc (suc n)) limit some all = omega (arith, range_end (start + 1) (suc n) limit (omega arith) all.1)

pub range_below : (start n limit : ℕ) → start + n ≤ limit → AllByRecursion (λ p. p < limit) (range_with_len start n)
range_below start zero limit fits = tt
range_below start (suc n) limit fits = (omega (arith, fits), range_below (start + 1) n limit (omega (arith, fits)))

-- runs end where their places do
pub tighter : (from end limit : ℕ) (runs : List Run) → DoRun from end runs → from ≤ limit → AllByRecursion (λ p. p < limit) (places_of runs) → DoRun from limit runs
tighter from end limit [] rise low all = low
tighter from end limit (run ∷ rest) rise low all = (
  rise.0,
  rise.1,
  tighter (run.start + run.count) end limit rest rise.2
      (range_end run.start run.count limit rise.1 (front_all (λ p. p < limit) (range_with_len run.start run.count) (places_of rest) all))
      (rest_all (λ p. p < limit) (range_with_len run.start run.count) (places_of rest) all),
)

-- ---- places of spots

abbrev pub AreBelow : ℕ → List Spot → Type 0
AreBelow limit spots = AllByRecursion (λ spot. spot.0 < limit) spots

places_below : (limit : ℕ) (places : List ℕ) (marks : List Bool) → length marks ≡ length places → AreBelow limit (zip places marks)
    → AllByRecursion (λ p. p < limit) places
places_below limit [] marks same all = tt
places_below limit (p ∷ ps) [] same all = absurd (omega (arith, same))
places_below limit (p ∷ ps) (m ∷ ms) same all = (all.0, places_below limit ps ms (omega (arith, same)) all.1)

spots_below : (from limit : ℕ) (places : List ℕ) (marks : List Bool) → DoRise from limit places → AreBelow limit (zip places marks)
spots_below from limit [] marks rise = tt
spots_below from limit (p ∷ ps) [] rise = tt
spots_below from limit (p ∷ ps) (m ∷ ms) rise =
    (omega (arith, rise_end (p + 1) limit ps rise.1), spots_below (p + 1) limit ps ms rise.1)

pub wanted_are_below : (limit : ℕ) (selection : Selection) → IsSelection limit selection → AreBelow limit (spots_of selection)
wanted_are_below limit selection is =
    spots_below 0 limit (places_of selection.runs.now) (marks_of selection.count selection.there.now) (places_rise 0 limit selection.runs.now is.rising)

pub seen_below : (limit : ℕ) (validity : List ℕ) (spots : List Spot) → AreBelow limit spots → AreBelow limit (map (seen validity) spots)
seen_below limit validity [] all = tt
seen_below limit validity (spot ∷ spots) all = (all.0, seen_below limit validity spots all.1)

pub flat_below : (f : Spot → List Spot) (limit other : ℕ) → ((spot : Spot) → spot.0 < limit → AreBelow other (f spot)) → (spots : List Spot) → AreBelow limit spots
    → AreBelow other (flat_map f spots)
flat_below f limit other each [] all = tt
flat_below f limit other each (spot ∷ spots) all =
    both_all (λ s. s.0 < other) (f spot) (flat_map f spots) (each spot all.0) (flat_below f limit other each spots all.1)

marked_below : (limit : ℕ) (mark : Bool) (places : List ℕ) → AllByRecursion (λ p. p < limit) places → AreBelow limit (map (λ p. (p, mark)) places)
marked_below limit mark [] all = tt
marked_below limit mark (p ∷ ps) all = (all.0, marked_below limit mark ps all.1)

-- inside lists of one size
pub sized_below : (size limit : ℕ) (offsets : List ℕ) (spots : List Spot) → AreBelow limit spots
    → AreBelow (size * limit) (spots_inside (fixed_size_list_layout size) offsets spots)
sized_below size limit offsets spots all = flat_below (spots_under (fixed_size_list_layout size) offsets) limit (size * limit) each spots all
  where
    each : (spot : Spot) → spot.0 < limit → AreBelow (size * limit) (spots_under (fixed_size_list_layout size) offsets spot)
    each spot below =
        let up : size * suc spot.0 ≤ size * limit = mul-le-mul_left size (omega (arith, below)) in
        marked_below (size * limit) spot.1 (range_with_len (size * spot.0) size)
        (range_below (size * spot.0) size (size * limit) (omega (arith, up, mul-suc size spot.0)))

-- inside lists of any size
pub lists_below : (limit total : ℕ) (offsets : List ℕ) (spots : List Spot) → HasSpans offsets limit total → AreBelow limit spots
    → AreBelow total (spots_inside (list_layout 4) offsets spots)
lists_below limit total offsets spots has all = flat_below (spots_under (list_layout 4) offsets) limit total (λ spot below. by_mark spot.0 spot.1 below) spots all
  where
    by_mark : (j : ℕ) (mark : Bool) → j < limit → AreBelow total (map (λ p. (p, true)) (elements_taken offsets (j, mark)))
    by_mark j true below =
        marked_below total true (range_with_len (start_of 4 offsets j) (length_of 4 offsets j))
        (range_below (start_of 4 offsets j) (length_of 4 offsets j) total (omega (arith, has.rises j below, has.ends j below)))
    by_mark j false below = tt

-- what is selected inside, by where it lies
pub inside_wanted : (limit : ℕ) (spots : List Spot) (inside : ChildSelection) (selection : Selection) → AreInside spots inside → AreBelow limit spots → limit ≤ values_limit
    → selection.runs.now ≡ inside.runs.items → selection.count ≡ inside.count → selection.there.now ≡ inside.there
    → IsSelection limit selection
inside_wanted limit spots inside selection are below few runs count there =
    let long : length (marks_of inside.count inside.there) ≡ length (places_of inside.runs.items) = marks_long inside.count inside.there are.marked ∙ are.counted in
    let all : AllByRecursion (λ p. p < limit) (places_of inside.runs.items) =
    places_below limit (places_of inside.runs.items) (marks_of inside.count inside.there) long (subst (AreBelow limit) (sym are.spots_are) below) in
    record {
      rising = subst (DoRun 0 limit) (sym runs) (tighter 0 are.rising.0 limit inside.runs.items are.rising.1 (omega arith) all);
      few = few;
      counted = count ∙ are.counted ∙ ap (λ l. length (places_of l)) (sym runs);
      marked = subst (λ n. HasMarks n selection.there.now) (sym count) (subst (HasMarks inside.count) (sym there) are.marked);
    }

pub inside_spots : (spots : List Spot) (inside : ChildSelection) (selection : Selection) → AreInside spots inside
    → selection.runs.now ≡ inside.runs.items → selection.count ≡ inside.count → selection.there.now ≡ inside.there → spots_of selection ≡ spots
inside_spots spots inside selection are runs count there =
    ap (λ l. spots_at l selection.count selection.there.now) runs ∙ ap (λ n. spots_at inside.runs.items n selection.there.now) count
    ∙ ap (spots_at inside.runs.items inside.count) there ∙ are.spots_are

-- ---- offsets

pub bytes_part : (bytes : List ℕ) (start count k : ℕ) → ((j : ℕ) → get_or bytes j 0 < 256) → get_or (bytes_from bytes start count) k 0 < 256
bytes_part bytes start count k all = by_place (nat_lt k count) refl
  where
    by_place : (test : Bool) → nat_lt k count ≡ test → get_or (bytes_from bytes start count) k 0 < 256
    by_place true is =
        subst (λ n. n < 256) (sym (get_or-take count (drop start bytes) k 0 (ltb-true k count is) ∙ get_or-drop start bytes k 0)) (all (start + k))
    by_place false is =
        subst (λ n. n < 256) (sym (get_or_past (bytes_from bytes start count) k 0
        (omega (arith, length-take count (drop start bytes), ltb-false k count is)))) (omega arith)

number_small : (bytes : List ℕ) → ((j : ℕ) → get_or bytes j 0 < 256) → little_number 4 bytes < 4294967296
number_small bytes all = omega (arith, all 0, all 1, all 2, all 3)

start_small : (x : ℕ) (test : Bool) → x < 4294967296 → nat_lt x 2147483648 ≡ test → pos 0 ≤ℤ (if test then pos x else pos x -ℤ pos 4294967296)
    → nat_abs (if test then pos x else pos x -ℤ pos 4294967296) < 2147483648
start_small x true small is low = omega (arith, ltb-true x 2147483648 is)
start_small x false small is low = absurd (omega (arith, ints, small, low))

pub offset_small : (offsets : List ℕ) (j : ℕ) → ((k : ℕ) → get_or offsets k 0 < 256) → pos 0 ≤ℤ offset_at 4 offsets j → start_of 4 offsets j < 2 ^ 31
offset_small offsets j all low =
    start_small (little_number 4 (bytes_from offsets (4 * j) 4)) (nat_lt (little_number 4 (bytes_from offsets (4 * j) 4)) 2147483648)
    (number_small (bytes_from offsets (4 * j) 4) (λ k. bytes_part offsets (4 * j) 4 k all)) refl low

rises_to : (offsets : List ℕ) (count limit : ℕ) → OffsetsDoRise 4 offsets count limit → (d j : ℕ) → j + d ≡ count → offset_at 4 offsets j ≤ℤ pos limit
rises_to offsets count limit rise zero j is =
    let same : count ≡ j = omega (arith, is) in subst (λ k. offset_at 4 offsets k ≤ℤ pos limit) same rise.ends
rises_to offsets count limit rise (suc d) j is =
    omega (arith, ints, rise.rises j (omega arith), rises_to offsets count limit rise d (j + 1) (omega arith))

rises_from : (offsets : List ℕ) (count limit : ℕ) → OffsetsDoRise 4 offsets count limit → (j : ℕ) → j ≤ count → pos 0 ≤ℤ offset_at 4 offsets j
rises_from offsets count limit rise zero within = rise.begins
rises_from offsets count limit rise (suc j) within =
    let next : suc j ≡ j + 1 = omega arith in
    subst (λ k. pos 0 ≤ℤ offset_at 4 offsets k) (sym next)
    (omega (arith, ints, rise.rises j (omega arith), rises_from offsets count limit rise j (omega arith)))

-- an offset that is not below zero is written as it stands
four_bytes : (a b c d : ℕ) → a < 256 → b < 256 → c < 256 → d < 256 → little_bytes 4 (little_number 4 (a ∷ b ∷ c ∷ d ∷ [])) ≡ a ∷ b ∷ c ∷ d ∷ []
four_bytes a b c d la lb lc ld =
    ext_get_or 0 (little_bytes 4 (little_number 4 (a ∷ b ∷ c ∷ d ∷ []))) (a ∷ b ∷ c ∷ d ∷ []) refl at
  where
    at : (i : ℕ) → i < 4 → get_or (little_bytes 4 (little_number 4 (a ∷ b ∷ c ∷ d ∷ []))) i 0 ≡ get_or (a ∷ b ∷ c ∷ d ∷ []) i 0
    at zero within = omega (arith, la)
    at (suc zero) within = omega (arith, la, lb)
    at (suc (suc zero)) within = omega (arith, la, lb, lc)
    at (suc (suc (suc zero))) within = omega (arith, la, lb, lc, ld)
    at (suc (suc (suc (suc i)))) within = absurd (omega arith)

bytes_back : (xs : List ℕ) → length xs ≡ 4 → ((k : ℕ) → get_or xs k 0 < 256) → little_bytes 4 (little_number 4 xs) ≡ xs
bytes_back [] long all = absurd (omega (arith, long))
bytes_back (a ∷ []) long all = absurd (omega (arith, long))
bytes_back (a ∷ b ∷ []) long all = absurd (omega (arith, long))
bytes_back (a ∷ b ∷ c ∷ []) long all = absurd (omega (arith, long))
bytes_back (a ∷ b ∷ c ∷ d ∷ []) long all = four_bytes a b c d (all 0) (all 1) (all 2) (all 3)
bytes_back (a ∷ b ∷ c ∷ d ∷ e ∷ rest) long all = absurd (omega (arith, long))

not_below : (x : ℕ) (test : Bool) → x < 4294967296 → nat_lt x 2147483648 ≡ test → pos 0 ≤ℤ (if test then pos x else pos x -ℤ pos 4294967296)
    → nat_abs (if test then pos x else pos x -ℤ pos 4294967296) ≡ x
not_below x true small is low = refl
not_below x false small is low = absurd (omega (arith, ints, small, low))

offset_written : (offsets : List ℕ) (j : ℕ) → ((k : ℕ) → get_or offsets k 0 < 256) → 4 * j + 4 ≤ length offsets → pos 0 ≤ℤ offset_at 4 offsets j
    → little_bytes 4 (start_of 4 offsets j) ≡ bytes_from offsets (4 * j) 4
offset_written offsets j all long low =
    let part : List ℕ = bytes_from offsets (4 * j) 4 in
    let bytes : (k : ℕ) → get_or part k 0 < 256 = λ k. bytes_part offsets (4 * j) 4 k all in
    let same : start_of 4 offsets j ≡ little_number 4 part =
    not_below (little_number 4 part) (nat_lt (little_number 4 part) 2147483648) (number_small part bytes) refl low in
    ap (little_bytes 4) same
    ∙ bytes_back part (omega (arith, length-take 4 (drop (4 * j) offsets), length-drop (4 * j) offsets, long)) bytes

-- offsets that keep their rules say where values stand
pub spans_of_rules : (offsets : List ℕ) (asked count total : ℕ) → asked ≤ count → ((k : ℕ) → get_or offsets k 0 < 256) → OffsetsRise 4 offsets count total
    → AreOffsetsLong 4 count (length offsets) → HasSpans offsets asked total
spans_of_rules offsets asked count total few all rises (inl none) = record {
  long = λ j below. absurd (omega (arith, none.0, few, below));
  rises = λ j below. absurd (omega (arith, none.0, few, below));
  ends = λ j below. absurd (omega (arith, none.0, few, below));
  few = λ j below. absurd (omega (arith, none.0, few, below));
  written = λ j some within. absurd (omega (arith, none.0, few, some));
}
spans_of_rules offsets asked count total few all (inl none) (inr long) = absurd (omega (arith, ap length none, long))
spans_of_rules offsets asked count total few all (inr rise) (inr long) = record {
  long = λ j below. omega (arith, few, below, long);
  rises = λ j below.
      omega (
        arith,
        ints,
        rise.rises j (omega (arith, few, below)),
        rises_from offsets count total rise j (omega (arith, few, below)),
        rises_from offsets count total rise (j + 1) (omega (arith, few, below)),
      );
  ends = λ j below.
      omega (
        arith,
        ints,
        rises_from offsets count total rise (j + 1) (omega (arith, few, below)),
        rises_to offsets count total rise (count - (j + 1)) (j + 1) (omega (arith, few, below)),
      );
  few = λ j below. offset_small offsets (j + 1) all (rises_from offsets count total rise (j + 1) (omega (arith, few, below)));
  written = λ j some within.
      offset_written offsets j all (omega (arith, few, within, long)) (rises_from offsets count total rise j (omega (arith, few, within)));
}
