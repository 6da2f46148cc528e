-- Values that stand where offsets say.
use Rattle.std.proofs.Common.{◌≡◌, refl, sym, ap, ap₂, subst, ◌∙◌, ℕ, zero, suc, ◌+◌, ◌-◌, ◌^◌, ◌<◌, ◌≤◌, Bool, true, false, List, [], ◌∷◌, ◌++◌, map, length, get_or, take, drop, arith, length-append, length-take}
use Rattle.std.proofs.lemmas.List.{length_push, append-nil, take_all}
use Rattle.std.proofs.lemmas.Grind.{flat_map-append}
use Rattle.std.proofs.lemmas.List.Sums.{sum_by-cons}
use Rattle.std.specs.List.{range_with_len, flat_map, sum_by, zip}
use Rattle.byteorder.specs.Endian.{little_bytes}
use Rattle.batch_types.specs.Canonical.{offsets_of}
use Rattle.batch_types.specs.Placed.{start_of, length_of}
use Rattle.batch_reading.specs.declared.selection.Selection.{Selection}
use Rattle.batch_reading.specs.Spots.{places_of, marks_of, Spot, spots_of, IsSelection}
use Rattle.batch_reading.specs.Spread.{HasSpans}
use Rattle.std.proofs.lemmas.List.FromFn.{length-range_with_len}
use Rattle.batch_reading.specs.Planned.{elements_taken}
use Rattle.batch_reading.specs.Taken.{span_taken}
use Rattle.batch_reading.proofs.Running.{mapped_more, gathered_step, DoRise, rise_end}

-- ---- offsets

-- a function's lists in order are another's where the two agree
pub same_lists_on : (f g : ℕ → List ℕ) (start n : ℕ) → ((j : ℕ) → start ≤ j → j < start + n → f j ≡ g j)
    → flat_map f (range_with_len start n) ≡ flat_map g (range_with_len start n)
same_lists_on f g start zero same = refl
same_lists_on f g start (suc n) same =
    ap₂ (λ x y. x ++ y) (same start (omega arith) (omega arith))
    (same_lists_on f g (start + 1) n (λ j from within. same j (omega (arith, from)) (omega (arith, within))))

front : (ns : List ℕ) (n j : ℕ) → j ≤ length ns → take j (ns ++ n ∷ []) ≡ take j ns
front ns n zero within = refl
front [] n (suc j) within = absurd (omega (arith, within))
front (m ∷ ns) n (suc j) within = ap (λ rest. m ∷ rest) (front ns n j (omega (arith, within)))

counting_more : (start n j : ℕ) → start + n ≡ j → range_with_len start (suc n) ≡ range_with_len start n ++ j ∷ []
counting_more start zero j e = let same : start ≡ j = omega (arith, e) in ap (λ k. k ∷ []) same
counting_more start (suc n) j e = ap (λ l. start ∷ l) (counting_more (start + 1) n j (omega (arith, e)))

-- one value more is one offset more
pub offsets_push : (ns : List ℕ) (n : ℕ) → offsets_of 4 (ns ++ n ∷ []) ≡ offsets_of 4 ns ++ little_bytes 4 (sum_by (λ x. x) (ns ++ n ∷ []))
offsets_push ns n =
    let more : ℕ → List ℕ = λ j. little_bytes 4 (sum_by (λ x. x) (take j (ns ++ n ∷ []))) in
    let less : ℕ → List ℕ = λ j. little_bytes 4 (sum_by (λ x. x) (take j ns)) in
    let count : ℕ = length ns + 1 in
    let longer : length (ns ++ n ∷ []) + 1 ≡ suc count = omega (arith, length_push ns n) in
    let end : 0 + count ≡ count = omega arith in
    ap (λ k. flat_map more (range_with_len 0 k)) longer
    ∙ ap (flat_map more) (counting_more 0 count count end)
    ∙ flat_map-append more (range_with_len 0 count) (count ∷ [])
    ∙ ap₂ (λ x y. x ++ y)
    (same_lists_on more less 0 count (λ j from within. ap (λ xs. little_bytes 4 (sum_by (λ x. x) xs)) (front ns n j (omega (arith, within)))))
    (append-nil (more count)
    ∙ ap (λ xs. little_bytes 4 (sum_by (λ x. x) xs)) (take_all count (ns ++ n ∷ []) (omega (arith, length_push ns n))))

-- what some lists have in all is how long they are one behind the other
pub sum_long : {X : Type 0} (f : X → List ℕ) (xs : List X) → sum_by (λ n. n) (map (λ x. length (f x)) xs) ≡ length (flat_map f xs)
sum_long f [] = refl
sum_long f (x ∷ xs) =
    sum_by-cons (λ n. n) (length (f x)) (map (λ y. length (f y)) xs)
    ∙ ap (λ n. length (f x) + n) (sum_long f xs)
    ∙ sym (length-append (f x) (flat_map f xs))

-- ---- one step of the loop

module _ (f : Spot → List ℕ) (limit : ℕ) (selection : Selection) (is : IsSelection limit selection) (i place : ℕ) (mark : Bool) (ends spans more ends_then spans_then : List ℕ)
    (there : i < selection.count) (p : place ≡ get_or (places_of selection.runs.now) i 0) (m : mark ≡ get_or (marks_of selection.count selection.there.now) i false)
    (ended : ends ≡ offsets_of 4 (map (λ spot. length (f spot)) (take i (spots_of selection))))
    (spanned : spans ≡ flat_map f (take i (spots_of selection)))
    (v : more ≡ f (place, mark)) (span_put : spans_then ≡ spans ++ more) (end_put : ends_then ≡ ends ++ little_bytes 4 (length (spans ++ more))) where
  pub spans_step : spans_then ≡ flat_map f (take (i + 1) (spots_of selection))
  spans_step =
      gathered_step f limit selection is i place mark spans spans_then there p m spanned (span_put ∙ ap (λ xs. spans ++ xs) v)

  pub ends_step : ends_then ≡ offsets_of 4 (map (λ spot. length (f spot)) (take (i + 1) (spots_of selection)))
  ends_step =
      let lengths : List ℕ = map (λ spot. length (f spot)) (take i (spots_of selection)) in
      let longer : map (λ spot. length (f spot)) (take (i + 1) (spots_of selection)) ≡ lengths ++ length (f (place, mark)) ∷ [] =
      mapped_more (λ spot. length (f spot)) limit selection is i place mark there p m in
      end_put
      ∙ ap₂ (λ xs n. xs ++ little_bytes 4 n) ended
      (ap length (sym span_put ∙ spans_step) ∙ sym (sum_long f (take (i + 1) (spots_of selection))) ∙ ap (sum_by (λ n. n)) longer)
      ∙ sym (offsets_push lengths (length (f (place, mark))))
      ∙ ap (offsets_of 4) (sym longer)

-- ---- room

module _ (offsets : List ℕ) (limit total : ℕ) (has : HasSpans offsets limit total) where
  -- offsets rise
  pub starts_rise : (d j : ℕ) → j + d ≤ limit → start_of 4 offsets j ≤ start_of 4 offsets (j + d)
  starts_rise zero j within =
      let same : j ≡ j + 0 = omega arith in subst (λ k. start_of 4 offsets j ≤ start_of 4 offsets k) same (omega arith)
  starts_rise (suc d) j within =
      let same : j + d + 1 ≡ j + suc d = omega arith in
      let next : start_of 4 offsets (j + d) ≤ start_of 4 offsets (j + d + 1) = has.rises (j + d) (omega (arith, within)) in
      let whole : start_of 4 offsets j ≤ start_of 4 offsets (j + d + 1) =
      omega (arith, starts_rise d j (omega (arith, within)), next) in
      subst (λ k. start_of 4 offsets j ≤ start_of 4 offsets k) same whole

  pub starts_to : (j k : ℕ) → j ≤ k → k ≤ limit → start_of 4 offsets j ≤ start_of 4 offsets k
  starts_to j k up within =
      let same : j + (k - j) ≡ k = omega (arith, up) in
      subst (λ n. start_of 4 offsets j ≤ start_of 4 offsets n) same (starts_rise (k - j) j (omega (arith, up, within)))

  -- what is taken of places that rise is no more than stands between their first and their last
  lists_sum : {X : Type 0} (f : Spot → List X) → ((p : ℕ) (mark : Bool) → length (f (p, mark)) ≤ length_of 4 offsets p)
      → (from : ℕ) (places : List ℕ) (marks : List Bool) → DoRise from limit places
      → sum_by (λ n. n) (map (λ spot. length (f spot)) (zip places marks)) + start_of 4 offsets from ≤ start_of 4 offsets limit
  lists_sum f short from [] marks rise = omega (arith, starts_to from limit rise (omega arith))
  lists_sum f short from (p ∷ ps) [] rise =
      omega (arith, starts_to from limit (rise_end from limit (p ∷ ps) rise) (omega arith))
  lists_sum f short from (p ∷ ps) (m ∷ ms) rise =
      let end : p + 1 ≤ limit = rise_end (p + 1) limit ps rise.1 in
      let both : sum_by (λ n. n) (length (f (p, m)) ∷ map (λ spot. length (f spot)) (zip ps ms))
      ≡ length (f (p, m)) + sum_by (λ n. n) (map (λ spot. length (f spot)) (zip ps ms)) =
      sum_by-cons (λ n. n) (length (f (p, m))) (map (λ spot. length (f spot)) (zip ps ms)) in
      let one : length (f (p, m)) ≤ start_of 4 offsets (p + 1) - start_of 4 offsets p = short p m in
      let step : start_of 4 offsets p ≤ start_of 4 offsets (p + 1) = has.rises p (omega (arith, end)) in
      let low : start_of 4 offsets from ≤ start_of 4 offsets p = starts_to from p rise.0 (omega (arith, end)) in
      omega (arith, both, one, step, low, lists_sum f short (p + 1) ps ms rise.1)

-- offsets of four bytes lead as far as all that is taken
pub lists_room : {X : Type 0} (offsets : List ℕ) (limit total : ℕ) (f : Spot → List X) → ((p : ℕ) (mark : Bool) → length (f (p, mark)) ≤ length_of 4 offsets p)
    → (places : List ℕ) (marks : List Bool) → DoRise 0 limit places → HasSpans offsets limit total
    → sum_by (λ n. n) (map (λ spot. length (f spot)) (zip places marks)) < 2 ^ 31
lists_room offsets zero total f short [] marks rise has = omega arith
lists_room offsets zero total f short (p ∷ ps) marks rise has = absurd (omega (arith, rise_end (p + 1) 0 ps rise.1))
lists_room offsets (suc limit) total f short places marks rise has =
    let last : limit + 1 ≡ suc limit = omega arith in
    let few : start_of 4 offsets (suc limit) < 2 ^ 31 =
    subst (λ n. start_of 4 offsets n < 2 ^ 31) last (has.few limit (omega arith)) in
    omega (arith, few, lists_sum offsets (suc limit) total has f short 0 places marks rise)

pub spans_short : (offsets bytes : List ℕ) (p : ℕ) (mark : Bool) → length (span_taken offsets bytes (p, mark)) ≤ length_of 4 offsets p
spans_short offsets bytes p true = omega (arith, length-take (length_of 4 offsets p) (drop (start_of 4 offsets p) bytes))
spans_short offsets bytes p false = omega arith

pub elements_short : (offsets : List ℕ) (p : ℕ) (mark : Bool) → length (elements_taken offsets (p, mark)) ≤ length_of 4 offsets p
elements_short offsets p true = omega (arith, length-range_with_len (start_of 4 offsets p) (length_of 4 offsets p))
elements_short offsets p false = omega arith
