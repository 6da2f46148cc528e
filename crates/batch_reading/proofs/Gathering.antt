-- Places that are gathered one behind the other.
use Rattle.std.proofs.Common.{◌≡◌, refl, sym, ap, ap₂, subst, ◌∙◌, ℕ, zero, suc, ◌+◌, ◌*◌, ◌<◌, ◌≤◌, Bool, true, List, [], ◌∷◌, ◌++◌, map, length, get_or, drop, replicate, arith, mul-le-mul_left, length-append, append_assoc}
use Rattle.std.proofs.lemmas.List.{drop_more, length-replicate, map-append, replicate-append-replicate}
use Rattle.std.proofs.lemmas.List.FromFn.{length-range_with_len}
use Rattle.std.proofs.lemmas.Grind.{flat_map-append}
use Rattle.std.specs.List.{flat_map, range_with_len, zip}
use native.Mathlib.Nat.{mul-suc}
use Rattle.batch_types.specs.LaysOut.{values_limit}
use Rattle.batch_types.specs.Layouts.{list_layout, fixed_size_list_layout}
use Rattle.batch_types.specs.Placed.{start_of}
use Rattle.batch_reading.specs.declared.selection.Run.{Run}
use Rattle.batch_reading.specs.declared.selection.Selection.{Selection}
use Rattle.batch_reading.specs.declared.inside.Spans.{Spans}
use Rattle.batch_reading.specs.Spots.{DoRun, places_of, Spot, IsSelection}
use Rattle.batch_reading.specs.Spread.{HasSpans}
use Rattle.batch_reading.specs.Planned.{elements_taken, spots_inside}
use Rattle.batch_reading.specs.Gathered.{scaled, places_gathered, AreGathered}
use Rattle.batch_reading.proofs.Running.{DoRise, wider, there_of, wanted_below}
use Rattle.batch_reading.proofs.Spanning.{starts_to}

-- ---- runs

pub run_push : (from : ℕ) (runs : List Run) (run : Run) → DoRun from run.start runs → 0 < run.count → DoRun from (run.start + run.count) (runs ++ run ∷ [])
run_push from [] run rise some = (rise, some, omega arith)
run_push from (first ∷ rest) run rise some = (rise.0, rise.1, run_push (first.start + first.count) rest run rise.2 some)

-- no more places than lie below the limit
pub run_count : (from limit : ℕ) (runs : List Run) → DoRun from limit runs → length (places_of runs) + from ≤ limit
run_count from limit [] rise = omega (arith, rise)
run_count from limit (run ∷ rest) rise =
    omega (
      arith,
      length-append (range_with_len run.start run.count) (places_of rest),
      length-range_with_len run.start run.count,
      rise.0,
      run_count (run.start + run.count) limit rest rise.2,
    )

pub range_split : (start m n k : ℕ) → k ≡ m + n → range_with_len start k ≡ range_with_len start m ++ range_with_len (start + m) n
range_split start zero n k is =
    let same : k ≡ n = omega (arith, is) in
    let place : start ≡ start + 0 = omega arith in
    ap (range_with_len start) same ∙ ap (λ p. range_with_len p n) place
range_split start (suc m) n zero is = absurd (omega (arith, is))
range_split start (suc m) n (suc k) is =
    let place : start + 1 + m ≡ start + suc m = omega arith in
    ap (λ l. start ∷ l)
    (range_split (start + 1) m n k (omega (arith, is)) ∙ ap (λ p. range_with_len (start + 1) m ++ range_with_len p n) place)

-- ---- places that are gathered

pub gathered_count : (end : ℕ) (spans : Spans) → AreGathered end spans → spans.count ≤ end
gathered_count end spans are =
    omega (
      arith,
      are.counted,
      length-append (places_of spans.runs.items) (range_with_len spans.last.start spans.last.count),
      length-range_with_len spans.last.start spans.last.count,
      run_count 0 spans.last.start spans.runs.items are.closed,
      are.opened,
    )

-- some more in the last run
module _ (end start count : ℕ) (spans longer : Spans) (are : AreGathered end spans) (follows : spans.last.start + spans.last.count ≡ start)
    (runs : longer.runs.items ≡ spans.runs.items) (first : longer.last.start ≡ spans.last.start) (more : longer.last.count ≡ spans.last.count + count)
    (counted : longer.count ≡ spans.count + count) where
  pub longer_places : places_gathered longer ≡ places_gathered spans ++ range_with_len start count
  longer_places =
      ap₂ (λ l p. places_of l ++ range_with_len p longer.last.count) runs first
      ∙ ap (λ l. places_of spans.runs.items ++ l)
      (range_split spans.last.start spans.last.count count longer.last.count more
      ∙ ap (λ p. range_with_len spans.last.start spans.last.count ++ range_with_len p count) follows)
      ∙ sym (append_assoc (places_of spans.runs.items) (range_with_len spans.last.start spans.last.count) (range_with_len start count))

  pub longer_gathered : AreGathered (start + count) longer
  longer_gathered = record {
    closed = subst (λ l. DoRun 0 longer.last.start l) (sym runs) (subst (λ p. DoRun 0 p spans.runs.items) (sym first) are.closed);
    opened = omega (arith, first, more, follows);
    counted =
        omega (arith, counted, are.counted, ap length longer_places, length-append (places_gathered spans) (range_with_len start count), length-range_with_len start count);
  }

-- some more in a new run
pub next_gathered : (end start count : ℕ) (spans longer : Spans) → AreGathered end spans → end ≤ start
    → places_of longer.runs.items ≡ places_gathered spans → DoRun 0 (spans.last.start + spans.last.count) longer.runs.items
    → longer.last.start ≡ start → longer.last.count ≡ count → longer.count ≡ spans.count + count → AreGathered (start + count) longer
next_gathered end start count spans longer are behind places rising first more counted = record {
  closed = subst (λ p. DoRun 0 p longer.runs.items) (sym first) (wider 0 (spans.last.start + spans.last.count) start longer.runs.items rising (omega (arith, are.opened, behind)));
  opened = omega (arith, first, more);
  counted =
      omega (
        arith,
        counted,
        are.counted,
        more,
        ap length places,
        length-append (places_of longer.runs.items) (range_with_len longer.last.start longer.last.count),
        length-range_with_len longer.last.start longer.last.count,
      );
}

-- ---- lists of one size

scaled_range : (size start count : ℕ) → range_with_len (size * start) (size * count) ≡ flat_map (λ p. range_with_len (size * p) size) (range_with_len start count)
scaled_range size start zero =
    let none : size * 0 ≡ 0 = omega arith in ap (range_with_len (size * start)) none
scaled_range size start (suc count) =
    let whole : size * suc count ≡ size + size * count = omega (arith, mul-suc size count) in
    let one : start + 1 ≡ suc start = omega arith in
    let next : size * start + size ≡ size * (start + 1) = omega (arith, mul-suc size start, ap (λ k. size * k) one) in
    range_split (size * start) size (size * count) (size * suc count) whole
    ∙ ap (λ l. range_with_len (size * start) size ++ l)
    (ap (λ p. range_with_len p (size * count)) next ∙ scaled_range size (start + 1) count)

pub scaled_places : (size : ℕ) (runs : List Run) → places_of (map (scaled size) runs) ≡ flat_map (λ p. range_with_len (size * p) size) (places_of runs)
scaled_places size [] = refl
scaled_places size (run ∷ rest) =
    ap₂ (λ x y. x ++ y) (scaled_range size run.start run.count) (scaled_places size rest)
    ∙ sym (flat_map-append (λ p. range_with_len (size * p) size) (range_with_len run.start run.count) (places_of rest))

pub scaled_rise : (size from limit : ℕ) (runs : List Run) → 0 < size → DoRun from limit runs → DoRun (size * from) (size * limit) (map (scaled size) runs)
scaled_rise size from limit [] some rise = mul-le-mul_left size rise
scaled_rise size from limit (run ∷ rest) some rise =
    let one : size * 1 ≤ size * run.count = mul-le-mul_left size (omega (arith, rise.1)) in
    let each : size * 1 ≡ size = omega arith in (
      mul-le-mul_left size rise.0,
      omega (arith, one, each, some),
      subst (λ n. DoRun n (size * limit) (map (scaled size) rest)) (mul-add size run.start run.count)
          (scaled_rise size (run.start + run.count) limit rest some rise.2),
    )
  where
    mul-add : (a b c : ℕ) → a * (b + c) ≡ a * b + a * c
    mul-add a b zero =
        let none : b + 0 ≡ b = omega arith in omega (arith, ap (λ k. a * k) none)
    mul-add a b (suc c) =
        let next : b + suc c ≡ suc (b + c) = omega arith in
        omega (arith, ap (λ k. a * k) next, mul-suc a (b + c), mul-suc a c, mul-add a b c)

pub scaled_rise_first : (size limit : ℕ) (runs : List Run) → 0 < size → DoRun 0 limit runs → DoRun 0 (size * limit) (map (scaled size) runs)
scaled_rise_first size limit runs some rise =
    let none : size * 0 ≡ 0 = omega arith in
    subst (λ n. DoRun n (size * limit) (map (scaled size) runs)) none (scaled_rise size 0 limit runs some rise)

module _ {X Y : Type 0} where
  -- lists of one length each
  pub even_long : (size : ℕ) (f : X → List Y) → ((x : X) → length (f x) ≡ size) → (xs : List X) → length (flat_map f xs) ≡ size * length xs
  even_long size f each [] = omega arith
  even_long size f each (x ∷ xs) =
      omega (arith, length-append (f x) (flat_map f xs), each x, even_long size f each xs, mul-suc size (length xs))

pub repeated_true : (size count : ℕ) → replicate (size * count) true ≡ flat_map (replicate size) (replicate count true)
repeated_true size zero = let none : size * 0 ≡ 0 = omega arith in ap (λ n. replicate n true) none
repeated_true size (suc count) =
    let next : size * suc count ≡ size + size * count = omega (arith, mul-suc size count) in
    ap (λ n. replicate n true) next ∙ sym (replicate-append-replicate size (size * count) true)
    ∙ ap (λ l. replicate size true ++ l) (repeated_true size count)

zip_both : {X Y : Type 0} (xs xs' : List X) (ys ys' : List Y) → length xs ≡ length ys → zip (xs ++ xs') (ys ++ ys') ≡ zip xs ys ++ zip xs' ys'
zip_both [] xs' [] ys' same = refl
zip_both [] xs' (y ∷ ys) ys' same = absurd (omega (arith, same))
zip_both (x ∷ xs) xs' [] ys' same = absurd (omega (arith, same))
zip_both (x ∷ xs) xs' (y ∷ ys) ys' same = ap (λ l. (x, y) ∷ l) (zip_both xs xs' ys ys' (omega (arith, same)))

zip_equal : (start n : ℕ) (mark : Bool) → zip (range_with_len start n) (replicate n mark) ≡ map (λ p. (p, mark)) (range_with_len start n)
zip_equal start zero mark = refl
zip_equal start (suc n) mark = ap (λ l. (start, mark) ∷ l) (zip_equal (start + 1) n mark)

pub scaled_spots : (size : ℕ) (places : List ℕ) (marks : List Bool) → length marks ≡ length places
    → zip (flat_map (λ p. range_with_len (size * p) size) places) (flat_map (replicate size) marks)
    ≡ spots_inside (fixed_size_list_layout size) [] (zip places marks)
scaled_spots size [] [] same = refl
scaled_spots size [] (mark ∷ marks) same = absurd (omega (arith, same))
scaled_spots size (p ∷ ps) [] same = absurd (omega (arith, same))
scaled_spots size (p ∷ ps) (mark ∷ marks) same =
    zip_both (range_with_len (size * p) size) (flat_map (λ q. range_with_len (size * q) size) ps) (replicate size mark) (flat_map (replicate size) marks)
    (length-range_with_len (size * p) size ∙ sym (length-replicate size mark))
    ∙ ap₂ (λ x y. x ++ y) (zip_equal (size * p) size mark) (scaled_spots size ps marks (omega (arith, same)))

-- ---- lists of any size

all_true : (places : List ℕ) → zip places (replicate (length places) true) ≡ map (λ p. (p, true)) places
all_true [] = refl
all_true (p ∷ ps) = ap (λ l. (p, true) ∷ l) (all_true ps)

mapped_flat : {X Y Z : Type 0} (g : Y → Z) (f : X → List Y) (xs : List X) → map g (flat_map f xs) ≡ flat_map (λ x. map g (f x)) xs
mapped_flat g f [] = refl
mapped_flat g f (x ∷ xs) = map-append g (f x) (flat_map f xs) ∙ ap (λ l. map g (f x) ++ l) (mapped_flat g f xs)

pub list_spots : (offsets places : List ℕ) (count : ℕ) (spots : List Spot) → count ≡ length places → places ≡ flat_map (elements_taken offsets) spots
    → zip places (replicate count true) ≡ spots_inside (list_layout 4) offsets spots
list_spots offsets places count spots counted are =
    ap (λ n. zip places (replicate n true)) counted ∙ all_true places ∙ ap (map (λ p. (p, true))) are
    ∙ mapped_flat (λ p. (p, true)) (elements_taken offsets) spots

-- the next list begins where the last one ended, or behind it
pub ends_before : (offsets : List ℕ) (limit total from end i place : ℕ) (selection : Selection) (is : IsSelection limit selection) → HasSpans offsets limit total
    → i < selection.count → place ≡ get_or (places_of selection.runs.now) i 0
    → DoRise from values_limit (drop i (places_of selection.runs.now)) → end ≤ start_of 4 offsets from
    → (end ≤ start_of 4 offsets place) × DoRise (place + 1) values_limit (drop (i + 1) (places_of selection.runs.now))
ends_before offsets limit total from end i place selection is has there p rise low =
    let next : DoRise from values_limit (get_or (places_of selection.runs.now) i 0 ∷ drop (i + 1) (places_of selection.runs.now)) =
    subst (DoRise from values_limit) (drop_more (places_of selection.runs.now) i 0 (there_of limit selection is i there)) rise in
    let step : DoRise from values_limit (place ∷ drop (i + 1) (places_of selection.runs.now)) =
    subst (λ q. DoRise from values_limit (q ∷ drop (i + 1) (places_of selection.runs.now))) (sym p) next in
    let below : place < limit = wanted_below limit selection is i place there p in (
      omega (arith, low, starts_to offsets limit total has from place step.0 (omega (arith, below))),
      step.1,
    )
