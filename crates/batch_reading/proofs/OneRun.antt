-- One run of places, of which none is left out.
use Rattle.std.proofs.Common.{◌≡◌, refl, sym, ap, ap₂, subst, ◌∙◌, ℕ, zero, suc, ◌+◌, ◌-◌, ◌*◌, ◌<◌, ◌≤◌, true, None, List, [], ◌∷◌, ◌++◌, map, length, take, drop, arith, length-take, length-drop}
use Rattle.std.proofs.lemmas.List.{append-nil, drop-drop}
use Rattle.std.proofs.lemmas.Grind.{flat_map-append}
use Rattle.std.proofs.lemmas.List.Sums.{sum_by-cons}
use Rattle.std.proofs.lemmas.List.FromFn.{length-range_with_len, length-map-range_with_len}
use Rattle.std.proofs.Math.Seq.{take-add}
use Rattle.std.specs.List.{range_with_len, flat_map, sum_by}
use Rattle.byteorder.specs.Endian.{little_bytes}
use Rattle.batch_types.specs.Canonical.{offsets_of}
use Rattle.batch_types.specs.Placed.{bytes_from, start_of, length_of, value_bytes}
use Rattle.batch_reading.specs.declared.selection.Run.{Run}
use Rattle.batch_reading.specs.declared.selection.Selection.{Selection}
use Rattle.batch_reading.specs.declared.plan.ChildSelection.{ChildSelection}
use Rattle.batch_reading.specs.OneRun.{offsets_from_zero, runs_from, AreElements}
use Rattle.batch_reading.specs.Spots.{DoRun, places_of, HasMarks, Spot, spots_at, spots_of, IsSelection}
use Rattle.batch_reading.specs.Spread.{HasSpans}
use Rattle.batch_reading.specs.Planned.{elements_taken, AreInside, spots_inside}
use Rattle.batch_reading.specs.Taken.{span_taken}
use Rattle.batch_types.specs.Layouts.{list_layout}
use Rattle.batch_reading.proofs.Running.{all_marked, all_gathered}
use Rattle.batch_reading.proofs.Spanning.{same_lists_on, starts_to}
use Rattle.batch_reading.proofs.Sizing.{run_blocks_are}
use Rattle.batch_reading.proofs.Gathering.{range_split, list_spots}

-- ---- the spots of a run

module _ (limit : ℕ) (selection : Selection) (is : IsSelection limit selection) (run : Run) (runs : selection.runs.now ≡ run ∷ []) (there : selection.there.now ≡ None) where
  places_are : places_of selection.runs.now ≡ range_with_len run.start run.count
  places_are = ap places_of runs ∙ append-nil (range_with_len run.start run.count)

  rising : DoRun 0 limit (run ∷ [])
  rising = subst (DoRun 0 limit) runs is.rising

  pub only_some : 0 < run.count
  only_some = rising.1

  pub only_within : run.start + run.count ≤ limit
  only_within = rising.2

  counted : selection.count ≡ length (places_of selection.runs.now)
  counted = is.counted

  pub only_mapped : {X : Type 0} (f : Spot → X) → map f (spots_of selection) ≡ map (λ p. f (p, true)) (range_with_len run.start run.count)
  only_mapped f =
      ap (λ marks. map f (spots_at selection.runs.now selection.count marks)) there
      ∙ all_marked f (places_of selection.runs.now) selection.count counted
      ∙ ap (map (λ p. f (p, true))) places_are

  pub only_gathered : {X : Type 0} (f : Spot → List X) → flat_map f (spots_of selection) ≡ flat_map (λ p. f (p, true)) (range_with_len run.start run.count)
  only_gathered f =
      ap (λ marks. flat_map f (spots_at selection.runs.now selection.count marks)) there
      ∙ all_gathered f (places_of selection.runs.now) selection.count counted
      ∙ ap (flat_map (λ p. f (p, true))) places_are

-- ---- offsets of a run

-- what the values of a run have in all, from the first on
sum_run : (start_at : ℕ → ℕ) (g : ℕ → ℕ) (j s n : ℕ) → j ≤ n
    → ((p : ℕ) → s ≤ p → p < s + n → g p + start_at p ≡ start_at (p + 1))
    → sum_by (λ x. x) (take j (map g (range_with_len s n))) + start_at s ≡ start_at (s + j)
sum_run start_at g zero s n few each =
    let same : s ≡ s + 0 = omega arith in
    let alone : 0 + start_at s ≡ start_at s = omega arith in
    alone ∙ ap start_at same
sum_run start_at g (suc j) s zero few each = absurd (omega (arith, few))
sum_run start_at g (suc j) s (suc n) few each =
    let both : sum_by (λ x. x) (g s ∷ take j (map g (range_with_len (s + 1) n))) ≡ g s + sum_by (λ x. x) (take j (map g (range_with_len (s + 1) n))) =
    sum_by-cons (λ x. x) (g s) (take j (map g (range_with_len (s + 1) n))) in
    let rest = sum_run start_at g j (s + 1) n (omega (arith, few)) (λ p from within. each p (omega (arith, from)) (omega (arith, within))) in
    let last : start_at (s + 1 + j) ≡ start_at (s + suc j) = let same : s + 1 + j ≡ s + suc j = omega arith in ap start_at same in
    omega (arith, both, rest, each s (omega arith) (omega arith), last)

pub run_ends : (offsets : List ℕ) (g : ℕ → ℕ) (s n : ℕ)
    → ((p : ℕ) → s ≤ p → p < s + n → g p + start_of 4 offsets p ≡ start_of 4 offsets (p + 1))
    → offsets_of 4 (map g (range_with_len s n)) ≡ offsets_from_zero offsets s n
run_ends offsets g s n each =
    let more : ℕ → List ℕ = λ j. little_bytes 4 (sum_by (λ x. x) (take j (map g (range_with_len s n)))) in
    let less : ℕ → List ℕ = λ j. little_bytes 4 (start_of 4 offsets (s + j) - start_of 4 offsets s) in
    let long : length (map g (range_with_len s n)) + 1 ≡ n + 1 = omega (arith, length-map-range_with_len g s n) in
    ap (λ k. flat_map more (range_with_len 0 k)) long
    ∙ same_lists_on more less 0 (n + 1)
    (λ j from within.
    ap (little_bytes 4) (omega (arith, sum_run (start_of 4 offsets) g j s n (omega (arith, within)) each)))

-- one offset more
pub offsets_more : (f : ℕ → List ℕ) (n : ℕ) → flat_map f (range_with_len 0 (n + 1)) ≡ flat_map f (range_with_len 0 n) ++ f n
offsets_more f n =
    let here : 0 + n ≡ n = omega arith in
    ap (flat_map f) (range_split 0 n 1 (n + 1) refl)
    ∙ flat_map-append f (range_with_len 0 n) (range_with_len (0 + n) 1)
    ∙ ap (λ l. flat_map f (range_with_len 0 n) ++ l) (append-nil (f (0 + n)) ∙ ap f here)

-- offsets that begin at 0 are as they stand
pub offsets_copied : (offsets : List ℕ) (limit total s n : ℕ) → HasSpans offsets limit total → 0 < n → s + n ≤ limit → start_of 4 offsets s ≡ 0
    → bytes_from offsets (4 * s) (4 * (n + 1)) ≡ offsets_from_zero offsets s n
offsets_copied offsets limit total s n has some within none =
    run_blocks_are offsets 4 s (n + 1) ∙ shifted s 0 (n + 1) (omega arith) (omega arith)
  where
    one : (j : ℕ) → j < n + 1 → bytes_from offsets (4 * (s + j)) 4 ≡ little_bytes 4 (start_of 4 offsets (s + j) - start_of 4 offsets s)
    one j below =
        let whole : start_of 4 offsets (s + j) ≡ start_of 4 offsets (s + j) - start_of 4 offsets s = omega (arith, none) in
        sym (has.written (s + j) (omega (arith, some, within)) (omega (arith, below, within))) ∙ ap (little_bytes 4) whole

    shifted : (from j k : ℕ) → from ≡ s + j → j + k ≡ n + 1
        → flat_map (λ place. bytes_from offsets (4 * place) 4) (range_with_len from k)
        ≡ flat_map (λ j. little_bytes 4 (start_of 4 offsets (s + j) - start_of 4 offsets s)) (range_with_len j k)
    shifted from j zero is sum = refl
    shifted from j (suc k) is sum =
        ap₂ (λ x y. x ++ y) (ap (λ p. bytes_from offsets (4 * p) 4) is ∙ one j (omega (arith, sum)))
        (shifted (from + 1) (j + 1) k (omega (arith, is)) (omega (arith, sum)))

-- ---- bytes and elements of a run

module _ (offsets : List ℕ) (limit total : ℕ) (has : HasSpans offsets limit total) where
  -- the values of a run stand one behind the other
  pub run_bytes_are : (bytes : List ℕ) (s n : ℕ) → s + n ≤ limit
      → flat_map (value_bytes 4 offsets bytes) (range_with_len s n) ≡ bytes_from bytes (start_of 4 offsets s) (start_of 4 offsets (s + n) - start_of 4 offsets s)
  run_bytes_are bytes s zero within =
      let same : s + 0 ≡ s = omega arith in
      let none : 0 ≡ start_of 4 offsets (s + 0) - start_of 4 offsets s = omega (arith, ap (start_of 4 offsets) same) in
      ap (λ k. take k (drop (start_of 4 offsets s) bytes)) none
  run_bytes_are bytes s (suc n) within =
      let first : start_of 4 offsets s ≤ start_of 4 offsets (s + 1) = has.rises s (omega (arith, within)) in
      let last : start_of 4 offsets (s + 1 + n) ≡ start_of 4 offsets (s + suc n) = let same : s + 1 + n ≡ s + suc n = omega arith in ap (start_of 4 offsets) same in
      let rest : start_of 4 offsets (s + 1) ≤ start_of 4 offsets (s + 1 + n) = starts_to offsets limit total has (s + 1) (s + 1 + n) (omega arith) (omega (arith, within)) in
      let one : ℕ = start_of 4 offsets (s + 1) - start_of 4 offsets s in
      let more : ℕ = start_of 4 offsets (s + 1 + n) - start_of 4 offsets (s + 1) in
      let all : one + more ≡ start_of 4 offsets (s + suc n) - start_of 4 offsets s = omega (arith, first, last, rest) in
      let next : start_of 4 offsets s + one ≡ start_of 4 offsets (s + 1) = omega (arith, first) in
      ap (λ l. value_bytes 4 offsets bytes s ++ l) (run_bytes_are bytes (s + 1) n (omega (arith, within)))
      ∙ ap (λ l. bytes_from bytes (start_of 4 offsets s) one ++ take more l)
      (ap (λ k. drop k bytes) (sym next) ∙ sym (drop-drop one (start_of 4 offsets s) bytes))
      ∙ sym (take-add one more (drop (start_of 4 offsets s) bytes))
      ∙ ap (λ k. bytes_from bytes (start_of 4 offsets s) k) all

  pub run_elements_are : (s n : ℕ) → s + n ≤ limit
      → flat_map (λ p. range_with_len (start_of 4 offsets p) (length_of 4 offsets p)) (range_with_len s n)
      ≡ range_with_len (start_of 4 offsets s) (start_of 4 offsets (s + n) - start_of 4 offsets s)
  run_elements_are s zero within =
      let same : s + 0 ≡ s = omega arith in
      let none : 0 ≡ start_of 4 offsets (s + 0) - start_of 4 offsets s = omega (arith, ap (start_of 4 offsets) same) in
      ap (range_with_len (start_of 4 offsets s)) none
  run_elements_are s (suc n) within =
      let first : start_of 4 offsets s ≤ start_of 4 offsets (s + 1) = has.rises s (omega (arith, within)) in
      let last : start_of 4 offsets (s + 1 + n) ≡ start_of 4 offsets (s + suc n) = let same : s + 1 + n ≡ s + suc n = omega arith in ap (start_of 4 offsets) same in
      let rest : start_of 4 offsets (s + 1) ≤ start_of 4 offsets (s + 1 + n) = starts_to offsets limit total has (s + 1) (s + 1 + n) (omega arith) (omega (arith, within)) in
      let one : ℕ = start_of 4 offsets (s + 1) - start_of 4 offsets s in
      let more : ℕ = start_of 4 offsets (s + 1 + n) - start_of 4 offsets (s + 1) in
      let all : start_of 4 offsets (s + suc n) - start_of 4 offsets s ≡ one + more = omega (arith, first, last, rest) in
      let next : start_of 4 offsets (s + 1) ≡ start_of 4 offsets s + one = omega (arith, first) in
      ap (λ l. range_with_len (start_of 4 offsets s) one ++ l)
      (run_elements_are (s + 1) n (omega (arith, within)) ∙ ap (λ k. range_with_len k more) next)
      ∙ sym (range_split (start_of 4 offsets s) one more (start_of 4 offsets (s + suc n) - start_of 4 offsets s) all)

  -- the last value ends within
  pub run_reach : (s n : ℕ) → 0 < n → s + n ≤ limit → start_of 4 offsets (s + n) ≤ total
  run_reach s n some within =
      let last : s + n - 1 + 1 ≡ s + n = omega (arith, some) in
      subst (λ k. start_of 4 offsets k ≤ total) last (has.ends (s + n - 1) (omega (arith, some, within)))

  -- how long each value is
  pub span_long : (bytes : List ℕ) (p : ℕ) → total ≡ length bytes → p < limit
      → length (span_taken offsets bytes (p, true)) + start_of 4 offsets p ≡ start_of 4 offsets (p + 1)
  span_long bytes p all below =
      omega (
        arith,
        has.rises p below,
        has.ends p below,
        all,
        length-take (length_of 4 offsets p) (drop (start_of 4 offsets p) bytes),
        length-drop (start_of 4 offsets p) bytes,
      )

  pub elements_long : (p : ℕ) → p < limit → length (elements_taken offsets (p, true)) + start_of 4 offsets p ≡ start_of 4 offsets (p + 1)
  elements_long p below =
      omega (arith, has.rises p below, length-range_with_len (start_of 4 offsets p) (length_of 4 offsets p))

-- ---- what is selected inside lists of a run

pub run_places : (start n : ℕ) → places_of (runs_from start n) ≡ range_with_len start n
run_places start zero = refl
run_places start (suc n) = append-nil (range_with_len start (suc n))

run_rises : (start n : ℕ) → (end : ℕ) × DoRun 0 end (runs_from start n)
run_rises start zero = (0, omega arith)
run_rises start (suc n) = (start + suc n, (omega arith, omega arith, omega arith))

pub run_inside : (offsets : List ℕ) (limit total : ℕ) (selection : Selection) (is : IsSelection limit selection) (run : Run) → HasSpans offsets limit total
    → selection.runs.now ≡ run ∷ [] → selection.there.now ≡ None → (inside : ChildSelection) → AreElements offsets run.start run.count inside
    → AreInside (spots_inside (list_layout 4) offsets (spots_of selection)) inside
run_inside offsets limit total selection is run has runs there inside are =
    let places : places_of inside.runs.items ≡ range_with_len (start_of 4 offsets run.start) inside.count =
    ap places_of are.runs_are ∙ run_places (start_of 4 offsets run.start) inside.count in
    let long : inside.count ≡ length (places_of inside.runs.items) =
    sym (length-range_with_len (start_of 4 offsets run.start) inside.count) ∙ ap length (sym places) in
    let rises = run_rises (start_of 4 offsets run.start) inside.count in
    let elements : places_of inside.runs.items ≡ flat_map (elements_taken offsets) (spots_of selection) =
    places ∙ ap (range_with_len (start_of 4 offsets run.start)) are.counted
    ∙ sym (run_elements_are offsets limit total has run.start run.count (only_within limit selection is run runs there))
    ∙ sym (only_gathered limit selection is run runs there (elements_taken offsets)) in
    record {
      rising = (rises.0, subst (DoRun 0 rises.0) (sym are.runs_are) rises.1);
      counted = long;
      marked = subst (HasMarks inside.count) (sym are.all_there) tt;
      spots_are =
          ap (spots_at inside.runs.items inside.count) are.all_there
          ∙ list_spots offsets (places_of inside.runs.items) inside.count (spots_of selection) long elements;
    }
