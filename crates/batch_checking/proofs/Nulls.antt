-- How many values a bitmap says are null.
use Rattle.std.proofs.Common.{IsTrue, ◌≡◌, refl, sym, ap, ◌∙◌, ℕ, ◌+◌, ◌==◌, ◌||◌, Bool, true, false, not, cond, ℤ, pos, List, [], ◌∷◌, map, length, true≢false}
use Rattle.std.specs.List.{range_with_len, count_by}
use Rattle.std.proofs.lemmas.List.Sums.{sum_by-cons}
use Rattle.bitmaps.specs.Bits.{bit_of}
use Rattle.batch_types.specs.Layouts.{Layout, null_layout, bits_layout, bytes_layout, binary_layout, utf8_layout}
use Rattle.batch_types.specs.Layouts.{list_layout, fixed_size_list_layout, struct_layout}
use Rattle.batch_types.specs.Rules.{HasNullCount}
use Rattle.batch_columns.specs.Looks.{has_values}
use Rattle.batch_checking.specs.SourceRules.{nulls_counted}

count_mapped : (f : ℕ → Bool) (xs : List ℕ) → count_by (λ j. not (f j)) xs ≡ count_by not (map f xs)
count_mapped f [] = refl
count_mapped f (x ∷ xs) =
    sum_by-cons (λ j. cond (not (f j)) 1 0) x xs ∙ ap (λ n. cond (not (f x)) 1 0 + n) (count_mapped f xs)
    ∙ sym (sum_by-cons (λ b. cond (not b) 1 0) (f x) (map f xs))

count_none : (xs : List ℕ) → count_by (λ j. false) xs ≡ 0
count_none [] = refl
count_none (x ∷ xs) = sum_by-cons (λ j. 0) x xs ∙ ap (λ n. 0 + n) (count_none xs)

counted : (validity : List ℕ) (xs : List ℕ) (none : Bool)
    → count_by (λ j. not (none || bit_of validity j)) xs ≡ cond none 0 (count_by not (map (bit_of validity) xs))
counted validity xs true = count_none xs
counted validity xs false = count_mapped (bit_of validity) xs

null_count : (validity : List ℕ) (count : ℕ)
    → count_by (λ j. not ((length validity == 0) || bit_of validity j)) (range_with_len 0 count) ≡ nulls_counted validity count
null_count validity count = counted validity (range_with_len 0 count) (length validity == 0)

abbrev Both : Type 0 → Type 0 → Type 0
Both A B = (A → B) × (B → A)

as_counted : (validity : List ℕ) (count : ℕ) (nulls : ℤ)
    → Both (nulls ≡ pos (nulls_counted validity count))
    (nulls ≡ pos (count_by (λ j. not ((length validity == 0) || bit_of validity j)) (range_with_len 0 count)))
as_counted validity count nulls = (λ is. is ∙ ap pos (sym (null_count validity count)), λ is. is ∙ ap pos (null_count validity count))

pub count_is : (layout : Layout) (validity : List ℕ) (count : ℕ) (nulls : ℤ) → has_values layout ≡ true
    → Both (nulls ≡ pos (nulls_counted validity count)) (HasNullCount layout validity (pos count, nulls))
count_is null_layout validity count nulls has = absurd (true≢false (sym has))
count_is bits_layout validity count nulls has = as_counted validity count nulls
count_is (bytes_layout size) validity count nulls has = as_counted validity count nulls
count_is (binary_layout offset) validity count nulls has = as_counted validity count nulls
count_is (utf8_layout offset) validity count nulls has = as_counted validity count nulls
count_is (list_layout offset) validity count nulls has = as_counted validity count nulls
count_is (fixed_size_list_layout size) validity count nulls has = as_counted validity count nulls
count_is struct_layout validity count nulls has = as_counted validity count nulls

pub none_asked : (layout : Layout) (validity : List ℕ) (count : ℕ) (nulls : ℤ) → has_values layout ≡ false → HasNullCount layout validity (pos count, nulls)
none_asked null_layout validity count nulls has = tt
none_asked bits_layout validity count nulls has = absurd (true≢false has)
none_asked (bytes_layout size) validity count nulls has = absurd (true≢false has)
none_asked (binary_layout offset) validity count nulls has = absurd (true≢false has)
none_asked (utf8_layout offset) validity count nulls has = absurd (true≢false has)
none_asked (list_layout offset) validity count nulls has = absurd (true≢false has)
none_asked (fixed_size_list_layout size) validity count nulls has = absurd (true≢false has)
none_asked struct_layout validity count nulls has = absurd (true≢false has)

pub count_answer : (layout : Layout) (validity : List ℕ) (count n : ℕ) (nulls seen : ℤ) (same : Bool) → seen ≡ nulls → has_values layout ≡ true
    → n ≡ nulls_counted validity count → Both (IsTrue same) (seen ≡ pos n) → Both (IsTrue same) (HasNullCount layout validity (pos count, nulls))
count_answer layout validity count n nulls seen same is has found (to, back) = (
  λ yes. (count_is layout validity count nulls has).0 (sym is ∙ to yes ∙ ap pos found),
  λ holds. back (is ∙ (count_is layout validity count nulls has).1 holds ∙ ap pos (sym found)),
)
