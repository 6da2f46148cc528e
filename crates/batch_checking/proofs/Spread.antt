-- Values that begin and end at offsets.
use Rattle.std.proofs.Common.{◌≡◌, ◌⊎◌, inl, inr, ap, subst, ℕ, zero, suc, ◌+◌, ◌-◌, ◌*◌, ◌<◌, ◌≤◌, ℤ, pos, negsuc, nat_abs, ◌≤ℤ◌, List, length, arith}
use Rattle.std.proofs.lemmas.Int.{ints}
use Rattle.batch_types.specs.Placed.{offset_at, start_of}
use Rattle.batch_types.specs.Rules.{DoRise, OffsetsRise, AreOffsetsLong}
use Rattle.batch_checking.specs.SourceRules.{AreSpread, AreSpreadWithin, StandsIn}

-- ---- numbers with a sign

abs_rises : (x y : ℤ) → pos 0 ≤ℤ x → x ≤ℤ y → (pos 0 ≤ℤ y) × (nat_abs x ≤ nat_abs y)
abs_rises (pos a) (pos b) low up = (omega (arith, ints), omega (arith, ints))
abs_rises (pos a) (negsuc b) low up = absurd (omega (arith, ints))
abs_rises (negsuc a) y low up = absurd (omega (arith, ints))

abs_within : (x : ℤ) (limit : ℕ) → pos 0 ≤ℤ x → x ≤ℤ pos limit → nat_abs x ≤ limit
abs_within (pos a) limit low up = omega (arith, ints)
abs_within (negsuc a) limit low up = absurd (omega (arith, ints))

plus_one : (n : ℕ) → n + 1 ≡ suc n
plus_one n = omega arith

module _ (offsets : List ℕ) (count limit : ℕ) (rise : DoRise 4 offsets count limit) where
  none_below : (j : ℕ) → j ≤ count → pos 0 ≤ℤ offset_at 4 offsets j
  none_below zero within = rise.begins
  none_below (suc j) within =
      subst (λ k. pos 0 ≤ℤ offset_at 4 offsets k) (plus_one j)
      (abs_rises (offset_at 4 offsets j) (offset_at 4 offsets (j + 1)) (none_below j (omega arith)) (rise.rises j (omega arith))).0

  pub starts_rise : (j : ℕ) → j < count → start_of 4 offsets j ≤ start_of 4 offsets (j + 1)
  starts_rise j below = (abs_rises (offset_at 4 offsets j) (offset_at 4 offsets (j + 1)) (none_below j (omega arith)) (rise.rises j below)).1

  pub starts_end : start_of 4 offsets count ≤ limit
  starts_end = abs_within (offset_at 4 offsets count) limit (none_below count (omega arith)) rise.ends

-- what is long enough and rises is spread
pub spread_by : (offsets : List ℕ) (count limit : ℕ) → AreOffsetsLong 4 count (length offsets) → OffsetsRise 4 offsets count limit
    → AreSpread offsets count × ((count ≡ 0) ⊎ (start_of 4 offsets count ≤ limit))
spread_by offsets count limit (inl none) rise = (inl none.0, inl none.0)
spread_by offsets count limit (inr long) (inl none) = absurd (omega (arith, ap length none, long))
spread_by offsets count limit (inr long) (inr rise) =
    (inr (long, starts_rise offsets count limit rise), inr (starts_end offsets count limit rise))

-- ---- rising

module _ (f : ℕ → ℕ) (count : ℕ) (rise : (j : ℕ) → j < count → f j ≤ f (j + 1)) where
  risen_by : (i n : ℕ) → i + n ≤ count → f i ≤ f (i + n)
  risen_by i zero within = subst (λ k. f i ≤ f k) (sum i) (omega arith)
    where
      sum : (k : ℕ) → k ≡ k + 0
      sum k = omega arith
  risen_by i (suc n) within =
      let here : f i ≤ f (i + n) = risen_by i n (omega arith) in
      let next : f (i + n) ≤ f (i + n + 1) = rise (i + n) (omega arith) in
      subst (λ k. f i ≤ f k) (sum i n) (omega arith)
    where
      sum : (k m : ℕ) → k + m + 1 ≡ k + suc m
      sum k m = omega arith

  pub risen : (i j : ℕ) → i ≤ j → j ≤ count → f i ≤ f j
  risen i j up within = subst (λ k. f i ≤ f k) (sum i j up) (risen_by i (j - i) (omega arith))
    where
      sum : (k m : ℕ) → k ≤ m → k + (m - k) ≡ m
      sum k m up = omega arith

-- ---- one value stands around a place

module _ (offsets : List ℕ) (count : ℕ) (rise : (j : ℕ) → j < count → start_of 4 offsets j ≤ start_of 4 offsets (j + 1)) where
  up : (i j : ℕ) → i ≤ j → j ≤ count → start_of 4 offsets i ≤ start_of 4 offsets j
  up = risen (start_of 4 offsets) count rise

  apart : (i j place : ℕ) → j < count → i < j → StandsIn offsets i place → StandsIn offsets j place → ⊥
  apart i j place below less one other = absurd (omega (arith, up (i + 1) j (omega arith) (omega arith)))

  pub one_row : (i j place : ℕ) → i < count → j < count → StandsIn offsets i place → StandsIn offsets j place → i ≡ j
  one_row i j place first second one other = cases_order i j
      (λ less. absurd (apart i j place second less one other)) (λ more. absurd (apart j i place first more other one))
    where
      cases_order : (a b : ℕ) → (a < b → a ≡ b) → (b < a → a ≡ b) → a ≡ b
      cases_order a b p q = grind arith

  none_before : (place row : ℕ) → row < count → place < start_of 4 offsets 0 → StandsIn offsets row place → ⊥
  none_before place row below early stands = absurd (omega (arith, up 0 row (omega arith) (omega arith)))

  none_behind : (place row : ℕ) → row < count → start_of 4 offsets count ≤ place → StandsIn offsets row place → ⊥
  none_behind place row below late stands = absurd (omega (arith, up (row + 1) count (omega arith) (omega arith)))

  pub none_outside : (place row : ℕ) → row < count → (place < start_of 4 offsets 0) ⊎ (start_of 4 offsets count ≤ place) → StandsIn offsets row place → ⊥
  none_outside place row below (inl early) stands = none_before place row below early stands
  none_outside place row below (inr late) stands = none_behind place row below late stands

-- what begins no higher than a place is not the end, which is higher
pub not_end : (f : ℕ → ℕ) (low count place : ℕ) → low ≤ count → f low ≤ place → place < f count → low < count
not_end f low count place within begins late = by_order low count within (λ less. less) (λ same. absurd (omega (arith, ap f same, begins, late)))
  where
    by_order : (a b : ℕ) → a ≤ b → (a < b → low < count) → (a ≡ b → low < count) → low < count
    by_order a b up p q = grind arith

pub value_ends : (offsets : List ℕ) (count limit row : ℕ) → AreSpreadWithin offsets count limit → row < count
    → (start_of 4 offsets row ≤ start_of 4 offsets (row + 1)) × (start_of 4 offsets (row + 1) ≤ limit)
value_ends offsets count limit row (inl none, ends) below = absurd (omega arith)
value_ends offsets count limit row (inr spread, inl none) below = absurd (omega arith)
value_ends offsets count limit row (inr spread, inr ends) below = (
  spread.1 row below,
  omega (arith, risen (start_of 4 offsets) count spread.1 (row + 1) count (omega arith) (omega arith), ends),
)

pub rising : (offsets : List ℕ) (count row : ℕ) → AreSpread offsets count → row < count
    → (4 * (count + 1) ≤ length offsets) × ((j : ℕ) → j < count → start_of 4 offsets j ≤ start_of 4 offsets (j + 1))
rising offsets count row (inl none) below = absurd (omega arith)
rising offsets count row (inr spread) below = spread
