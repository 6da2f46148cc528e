-- Runs of places, one at a time.
use Rattle.std.proofs.Common.{◌≡◌, refl, sym, ap, ap₂, subst, ◌∙◌, ℕ, zero, suc, ◌+◌, ◌<◌, ◌≤◌, Bool, true, false, Option, Some, None, List, [], ◌∷◌, ◌++◌, map, length, get_or, take, drop, replicate, arith, append_assoc}
use Rattle.std.proofs.lemmas.List.{take_more, take_all, drop_more, length-replicate, length-map, append-nil, map-append}
use Rattle.std.proofs.lemmas.Slice.Zip.{get_or-zip}
use Rattle.std.proofs.lemmas.Grind.{flat_map-append}
use Rattle.std.specs.List.{range_with_len, zip, flat_map}
use Rattle.batch_types.specs.LaysOut.{values_limit}
use Rattle.batch_reading.specs.declared.selection.Run.{Run}
use Rattle.batch_reading.specs.declared.selection.Selection.{Selection}
use Rattle.batch_reading.specs.Spots.{DoRun, places_of, marks_of, HasMarks, Spot, spots_of, IsSelection}

-- ---- runs

pub run_end : (from limit : ℕ) (runs : List Run) → DoRun from limit runs → from ≤ limit
run_end from limit [] rise = rise
run_end from limit (run ∷ rest) rise =
    omega (arith, rise.0, run_end (run.start + run.count) limit rest rise.2)

-- a run that is there is not empty, and ends below the limit
pub run_there : (runs : List Run) (r from limit : ℕ) (d : Run) → DoRun from limit runs → r < length runs
    → (0 < (get_or runs r d).count) × ((get_or runs r d).start + (get_or runs r d).count ≤ limit)
run_there [] r from limit d rise there = absurd (omega (arith, there))
run_there (run ∷ rest) zero from limit d rise there = (rise.1, run_end (run.start + run.count) limit rest rise.2)
run_there (run ∷ rest) (suc r) from limit d rise there =
    run_there rest r (run.start + run.count) limit d rise.2 (omega (arith, there))

pub some_left : (runs : List Run) (r : ℕ) → 0 < length (places_of (drop r runs)) → r < length runs
some_left [] zero some = absurd (omega (arith, some))
some_left [] (suc r) some = absurd (omega (arith, some))
some_left (run ∷ rest) zero some = omega arith
some_left (run ∷ rest) (suc r) some = omega (arith, some_left rest r some)

pub wider : (from limit further : ℕ) (runs : List Run) → DoRun from limit runs → limit ≤ further → DoRun from further runs
wider from limit further [] rise more = omega (arith, rise, more)
wider from limit further (run ∷ rest) rise more = (rise.0, rise.1, wider (run.start + run.count) limit further rest rise.2 more)

places_append : (xs ys : List Run) → places_of (xs ++ ys) ≡ places_of xs ++ places_of ys
places_append [] ys = refl
places_append (run ∷ xs) ys =
    ap (λ l. range_with_len run.start run.count ++ l) (places_append xs ys)
    ∙ sym (append_assoc (range_with_len run.start run.count) (places_of xs) (places_of ys))

-- the places of one run more
pub places_push : (runs : List Run) (run : Run) → places_of (runs ++ run ∷ []) ≡ places_of runs ++ range_with_len run.start run.count
places_push runs run =
    places_append runs (run ∷ []) ∙ ap (λ l. places_of runs ++ l) (append-nil (range_with_len run.start run.count))

pub places_more : (runs : List Run) (r : ℕ) (d : Run) → r < length runs
    → places_of (take (r + 1) runs) ≡ places_of (take r runs) ++ range_with_len (get_or runs r d).start (get_or runs r d).count
places_more runs r d there = ap places_of (take_more runs r d there) ∙ places_push (take r runs) (get_or runs r d)

-- ---- the way along the places

pub step_ahead : (places ahead rest : List ℕ) (i place : ℕ) → ahead ≡ drop i places → i < length places → ahead ≡ place ∷ rest
    → (place ≡ get_or places i 0) × (rest ≡ drop (i + 1) places)
step_ahead places ahead rest i place is there next =
    let both : place ∷ rest ≡ get_or places i 0 ∷ drop (i + 1) places = sym next ∙ is ∙ drop_more places i 0 there in (
      ap (λ l. get_or l 0 0) both,
      ap (λ l. drop 1 l) both,
    )

pub some_ahead : (places ahead : List ℕ) (i : ℕ) → ahead ≡ drop i places → i < length places → 0 < length ahead
some_ahead places ahead i is there =
    subst (λ l. 0 < length l) (sym (is ∙ drop_more places i 0 there)) (omega arith)

-- ---- spots

pub marks_long : (count : ℕ) (marks : Option (List Bool)) → HasMarks count marks → length (marks_of count marks) ≡ count
marks_long count None has = length-replicate count true
marks_long count (Some marks) has = has

module _ (limit : ℕ) (selection : Selection) (is : IsSelection limit selection) where
  pub within_all : DoRun 0 values_limit selection.runs.now
  within_all = wider 0 limit values_limit selection.runs.now is.rising is.few

  pub there_of : (i : ℕ) → i < selection.count → i < length (places_of selection.runs.now)
  there_of i there = subst (λ n. i < n) is.counted there

  -- the spot of this number
  pub spot_is : (i : ℕ) → i < selection.count
      → get_or (spots_of selection) i (0, false) ≡ (get_or (places_of selection.runs.now) i 0, get_or (marks_of selection.count selection.there.now) i false)
  spot_is i there =
      get_or-zip (places_of selection.runs.now) (marks_of selection.count selection.there.now) i (0, false) (there_of i there)
      (subst (λ n. i < n) (sym (marks_long selection.count selection.there.now is.marked)) there)

  pub spots_long : length (spots_of selection) ≡ selection.count
  spots_long =
      zip_long (places_of selection.runs.now) (marks_of selection.count selection.there.now)
      (marks_long selection.count selection.there.now is.marked ∙ is.counted)
      ∙ sym is.counted
    where
      zip_long : (ps : List ℕ) (bs : List Bool) → length bs ≡ length ps → length (zip ps bs) ≡ length ps
      zip_long [] bs same = refl
      zip_long (p ∷ ps) [] same = absurd (omega (arith, same))
      zip_long (p ∷ ps) (b ∷ bs) same = ap suc (zip_long ps bs (omega (arith, same)))

  -- a cell for each
  pub cells_long : {X : Type 0} (f : Spot → X) → length (map f (spots_of selection)) ≡ selection.count
  cells_long f = length-map (spots_of selection) f ∙ spots_long

  module _ (i place : ℕ) (mark : Bool) (there : i < selection.count) (p : place ≡ get_or (places_of selection.runs.now) i 0)
      (m : mark ≡ get_or (marks_of selection.count selection.there.now) i false) where
    this_spot : get_or (spots_of selection) i (0, false) ≡ (place, mark)
    this_spot = spot_is i there ∙ ap₂ (λ x y. (x, y)) (sym p) (sym m)

    pub spots_more : take (i + 1) (spots_of selection) ≡ take i (spots_of selection) ++ (place, mark) ∷ []
    spots_more =
        take_more (spots_of selection) i (0, false) (subst (λ n. i < n) (sym spots_long) there)
        ∙ ap (λ s. take i (spots_of selection) ++ s ∷ []) this_spot

module _ {X : Type 0} where
  -- one value a spot
  pub mapped_more : (f : Spot → X) (limit : ℕ) (selection : Selection) (is : IsSelection limit selection) (i place : ℕ) (mark : Bool) (there : i < selection.count)
      → place ≡ get_or (places_of selection.runs.now) i 0 → mark ≡ get_or (marks_of selection.count selection.there.now) i false
      → map f (take (i + 1) (spots_of selection)) ≡ map f (take i (spots_of selection)) ++ f (place, mark) ∷ []
  mapped_more f limit selection is i place mark there p m =
      ap (map f) (spots_more limit selection is i place mark there p m) ∙ map-append f (take i (spots_of selection)) ((place, mark) ∷ [])

  -- some values a spot
  pub gathered_more : (f : Spot → List X) (limit : ℕ) (selection : Selection) (is : IsSelection limit selection) (i place : ℕ) (mark : Bool) (there : i < selection.count)
      → place ≡ get_or (places_of selection.runs.now) i 0 → mark ≡ get_or (marks_of selection.count selection.there.now) i false
      → flat_map f (take (i + 1) (spots_of selection)) ≡ flat_map f (take i (spots_of selection)) ++ f (place, mark)
  gathered_more f limit selection is i place mark there p m =
      ap (flat_map f) (spots_more limit selection is i place mark there p m)
      ∙ flat_map-append f (take i (spots_of selection)) ((place, mark) ∷ [])
      ∙ ap (λ l. flat_map f (take i (spots_of selection)) ++ l) (append-nil (f (place, mark)))

  -- where all are selected
  pub all_marked : (f : Spot → X) (places : List ℕ) (count : ℕ) → count ≡ length places
      → map f (zip places (replicate count true)) ≡ map (λ p. f (p, true)) places
  all_marked f places count counted =
      ap (λ n. map f (zip places (replicate n true))) counted ∙ all places
    where
      all : (places : List ℕ) → map f (zip places (replicate (length places) true)) ≡ map (λ p. f (p, true)) places
      all [] = refl
      all (p ∷ ps) = ap (λ l. f (p, true) ∷ l) (all ps)

  pub all_gathered : (f : Spot → List X) (places : List ℕ) (count : ℕ) → count ≡ length places
      → flat_map f (zip places (replicate count true)) ≡ flat_map (λ p. f (p, true)) places
  all_gathered f places count counted =
      ap (λ n. flat_map f (zip places (replicate n true))) counted ∙ all places
    where
      all : (places : List ℕ) → flat_map f (zip places (replicate (length places) true)) ≡ flat_map (λ p. f (p, true)) places
      all [] = refl
      all (p ∷ ps) = ap (λ l. f (p, true) ++ l) (all ps)

-- ---- one step of a loop over the selected cells

module _ {X : Type 0} where
  pub mapped_step : (f : Spot → X) (limit : ℕ) (selection : Selection) (is : IsSelection limit selection) (i place : ℕ) (mark : Bool) (value : X) (out out_then : List X)
      → i < selection.count → place ≡ get_or (places_of selection.runs.now) i 0 → mark ≡ get_or (marks_of selection.count selection.there.now) i false
      → out ≡ map f (take i (spots_of selection)) → value ≡ f (place, mark) → out_then ≡ out ++ value ∷ []
      → out_then ≡ map f (take (i + 1) (spots_of selection))
  mapped_step f limit selection is i place mark value out out_then there p m done v next =
      next ∙ ap₂ (λ xs x. xs ++ x ∷ []) done v ∙ sym (mapped_more f limit selection is i place mark there p m)

  pub gathered_step : (f : Spot → List X) (limit : ℕ) (selection : Selection) (is : IsSelection limit selection) (i place : ℕ) (mark : Bool) (out out_then : List X)
      → i < selection.count → place ≡ get_or (places_of selection.runs.now) i 0 → mark ≡ get_or (marks_of selection.count selection.there.now) i false
      → out ≡ flat_map f (take i (spots_of selection)) → out_then ≡ out ++ f (place, mark)
      → out_then ≡ flat_map f (take (i + 1) (spots_of selection))
  gathered_step f limit selection is i place mark out out_then there p m done next =
      next ∙ ap (λ xs. xs ++ f (place, mark)) done ∙ sym (gathered_more f limit selection is i place mark there p m)

-- the end of such a loop
pub all_taken : (limit : ℕ) (selection : Selection) (is : IsSelection limit selection) (i : ℕ) → selection.count ≤ i → take i (spots_of selection) ≡ spots_of selection
all_taken limit selection is i past = take_all i (spots_of selection) (subst (λ n. n ≤ i) (sym (spots_long limit selection is)) past)

-- ---- places rise

abbrev pub DoRise : ℕ → ℕ → List ℕ → Type 0
DoRise from limit [] = from ≤ limit
DoRise from limit (place ∷ places) = (from ≤ place) × DoRise (place + 1) limit places

rise_along : (from limit start count : ℕ) (places : List ℕ) → from ≤ start → DoRise (start + count) limit places
    → DoRise from limit (range_with_len start count ++ places)
rise_along from limit start zero [] low rise = omega (arith, low, rise)
rise_along from limit start zero (p ∷ ps) low rise = (omega (arith, low, rise.0), rise.1)
rise_along from limit start (suc count) places low rise =
    let same : start + suc count ≡ start + 1 + count = omega arith in
    (low, rise_along (start + 1) limit (start + 1) count places (omega arith) (subst (λ n. DoRise n limit places) same rise))

pub places_rise : (from limit : ℕ) (runs : List Run) → DoRun from limit runs → DoRise from limit (places_of runs)
places_rise from limit [] rise = rise
places_rise from limit (run ∷ rest) rise =
    rise_along from limit run.start run.count (places_of rest) rise.0 (places_rise (run.start + run.count) limit rest rise.2)

pub rise_end : (from limit : ℕ) (places : List ℕ) → DoRise from limit places → from ≤ limit
rise_end from limit [] rise = rise
rise_end from limit (p ∷ ps) rise = omega (arith, rise.0, rise_end (p + 1) limit ps rise.1)

pub place_below : (from limit : ℕ) (places : List ℕ) (i : ℕ) → DoRise from limit places → i < length places → get_or places i 0 < limit
place_below from limit [] i rise there = absurd (omega (arith, there))
place_below from limit (p ∷ ps) zero rise there = omega (arith, rise_end (p + 1) limit ps rise.1)
place_below from limit (p ∷ ps) (suc i) rise there = place_below (p + 1) limit ps i rise.1 (omega (arith, there))

-- a place that is selected lies below the limit
pub wanted_below : (limit : ℕ) (selection : Selection) (is : IsSelection limit selection) (i place : ℕ) → i < selection.count
    → place ≡ get_or (places_of selection.runs.now) i 0 → place < limit
wanted_below limit selection is i place there p =
    subst (λ x. x < limit) (sym p)
    (place_below 0 limit (places_of selection.runs.now) i (places_rise 0 limit selection.runs.now is.rising) (there_of limit selection is i there))

-- the same places with other marks
pub remarked : (limit : ℕ) (selection other : Selection) → IsSelection limit selection → other.runs.now ≡ selection.runs.now → other.count ≡ selection.count
    → HasMarks other.count other.there.now → IsSelection limit other
remarked limit selection other is runs count marked = record {
  rising = subst (DoRun 0 limit) (sym runs) is.rising;
  few = is.few;
  counted = count ∙ is.counted ∙ ap (λ l. length (places_of l)) (sym runs);
  marked = marked;
}
