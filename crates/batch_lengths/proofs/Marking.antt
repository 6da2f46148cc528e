-- Marks of cells that are wanted.
use Rattle.std.proofs.Common.{◌≡◌, refl, sym, ap, ap₂, subst, ◌∙◌, ℕ, zero, suc, ◌+◌, ◌-◌, ◌^◌, ◌<◌, ◌≤◌, ◌==◌, ◌||◌, ◌&&◌, not, if◌then◌else◌, nat_lt, nat_eq, Bool, true, false, true≢false, List, [], ◌∷◌, ◌++◌, map, arith}
use Rattle.std.proofs.lemmas.List.{map-append}
use Rattle.std.proofs.lemmas.List.Sums.{sum_by-cons}
use Rattle.std.proofs.lemmas.Bool.{le-ltb, lt-ltb, ne_eqb, eqb-true}
use Rattle.std.proofs.lemmas.Simd.{map-map}
use Rattle.std.specs.Cmp.Lexicographic.{pointwise}
use Rattle.std.specs.List.{range_with_len}
use Rattle.bitmaps.specs.Bits.{bit_of, zeros}
use Rattle.batch_columns.specs.declared.encoded_column.EncodedColumn.{EncodedColumn}
use Rattle.batch_reading.specs.Spots.{Spot}
use Rattle.batch_reading.specs.Taken.{valid_in, is_shown, seen}
use Rattle.batch_lengths.specs.declared.counted.Counted.{Counted}
use Rattle.batch_lengths.specs.declared.validity_mask.ValidityMask.{ValidityMask}
use Rattle.batch_lengths.specs.Along.{run_spots, blank_spots, mark_of, marked_from, spots_marked}
use Rattle.batch_lengths.specs.Counted.{has_null, IsCounted}
use Rattle.batch_lengths.specs.Reach.{Between, ReadsTo}
use Rattle.batch_lengths.proofs.Parts.{range_both, run_both, counted_both}
use Rattle.batch_lengths.proofs.Between.{between_wider, counted_fits}

-- functions that agree on a range
pub same_on : {X : Type 0} (f g : ℕ → X) (start n : ℕ) → ((k : ℕ) → start ≤ k → k < start + n → f k ≡ g k) → map f (range_with_len start n) ≡ map g (range_with_len start n)
same_on f g start zero same = refl
same_on f g start (suc n) same =
    ap₂ (λ x xs. x ∷ xs) (same start (omega arith) (omega arith)) (same_on f g (start + 1) n (λ k from below. same k (omega (arith, from)) (omega (arith, below))))

-- numbers that are moved
pub moved_from : {X : Type 0} (f : ℕ → X) (start low high n : ℕ) → start + low ≡ high → map (λ k. f (start + k)) (range_with_len low n) ≡ map f (range_with_len high n)
moved_from f start low high zero is = refl
moved_from f start low high (suc n) is = ap₂ (λ x xs. x ∷ xs) (ap f is) (moved_from f start (low + 1) (high + 1) n (omega (arith, is)))

moved : {X : Type 0} (f : ℕ → X) (start n : ℕ) → map (λ k. f (start + k)) (range_with_len 0 n) ≡ map f (range_with_len start n)
moved f start n = moved_from f start 0 start n (omega arith)

pub all_marked : (start count : ℕ) (mark : ℕ → Bool) → ((k : ℕ) → mark k ≡ true)
    → map (λ number. (start + number, mark number)) (range_with_len 0 count) ≡ run_spots start count
all_marked start count mark all =
    same_on (λ number. (start + number, mark number)) (λ number. (start + number, true)) 0 count (λ k from below. ap (λ m. (start + k, m)) (all k))
    ∙ moved (λ place. (place, true)) start count

pub run_marked : (marks : ValidityMask) → marks.all ≡ true → spots_marked marks ≡ run_spots marks.start marks.count
run_marked marks all = all_marked marks.start marks.count (mark_of marks) (λ k. ap (λ b. b || bit_of marks.set k) all)

-- the marked ones up to one more
pub one_marked_more : (marks : ValidityMask) (n : ℕ) → marked_from marks 0 (n + 1) ≡ marked_from marks 0 n ++ (marks.start + n, mark_of marks n) ∷ []
one_marked_more marks n =
    let at : 0 + n ≡ n = omega arith in
    ap (λ l. map {B = Spot} (λ number. (marks.start + number, mark_of marks number)) l) (range_both 0 n 1)
    ∙ map-append {B = Spot} (λ number. (marks.start + number, mark_of marks number)) (range_with_len 0 n) (range_with_len (0 + n) 1)
    ∙ ap (λ k. marked_from marks 0 n ++ marked_from marks k 1) at

pub marked_both : (marks : ValidityMask) (low m n : ℕ) → marked_from marks low (m + n) ≡ marked_from marks low m ++ marked_from marks (low + m) n
marked_both marks low m n =
    ap (λ l. map {B = Spot} (λ number. (marks.start + number, mark_of marks number)) l) (range_both low m n)
    ∙ map-append {B = Spot} (λ number. (marks.start + number, mark_of marks number)) (range_with_len low m) (range_with_len (low + m) n)

-- those that are valid too
pub taken_marked : (marks made : ValidityMask) (validity : List ℕ) → made.start ≡ marks.start → made.count ≡ marks.count
    → ((k : ℕ) → k < marks.count → mark_of made k ≡ (mark_of marks k && valid_in validity (marks.start + k)))
    → spots_marked made ≡ map (seen validity) (spots_marked marks)
taken_marked marks made validity start count each =
    ap₂ (λ s n. map (λ number. (s + number, mark_of made number)) (range_with_len 0 n)) start count
    ∙ same_on (λ number. (marks.start + number, mark_of made number)) (λ number. seen validity (marks.start + number, mark_of marks number)) 0 marks.count
    (λ k from below. ap (λ m. (marks.start + k, m)) (each k (omega (arith, below))))
    ∙ sym (map-map (seen validity) (λ number. (marks.start + number, mark_of marks number)) (range_with_len 0 marks.count))

pub marked_between : (marks : ValidityMask) (n low : ℕ) → Between (marks.start + low) (marks.start + (low + n)) (map (λ number. (marks.start + number, mark_of marks number)) (range_with_len low n))
marked_between marks zero low = omega arith
marked_between marks (suc n) low =
    let next : marks.start + (low + 1) ≡ marks.start + low + 1 = omega arith in
    let end : marks.start + (low + 1 + n) ≡ marks.start + (low + suc n) = omega arith in (
      omega arith,
      subst (λ e. Between (marks.start + low + 1) e (map (λ number. (marks.start + number, mark_of marks number)) (range_with_len (low + 1) n))) end
          (subst (λ f. Between f (marks.start + (low + 1 + n)) (map (λ number. (marks.start + number, mark_of marks number)) (range_with_len (low + 1) n))) next
          (marked_between marks n (low + 1))),
    )

and_true : (a b : Bool) → (a && b) ≡ true → b ≡ true
and_true true b is = is
and_true false b is = absurd (true≢false (sym is))

pub taken_valid : (made mark valid : Bool) → made ≡ (mark && valid) → made ≡ true → valid ≡ true
taken_valid made mark valid is marked = and_true mark valid (sym is ∙ marked)

-- ---- one more

module _ (s : EncodedColumn) (marks : ValidityMask) (n : ℕ) (below : n < marks.count) (reads : ReadsTo s (marks.start + marks.count)) (a b : Counted)
    (before : IsCounted s (marked_from marks 0 n) a) (one : IsCounted s ((marks.start + n, mark_of marks n) ∷ []) b) where
  pub marked_next : (c : Counted) → c.has_null ≡ (a.has_null || b.has_null) → c.total ≡ a.total + b.total → IsCounted s (marked_from marks 0 (n + 1)) c
  marked_next c nulls lengths =
      subst (λ l. IsCounted s l c) (sym (one_marked_more marks n))
      (counted_both s (marked_from marks 0 n) ((marks.start + n, mark_of marks n) ∷ []) a b c before one nulls lengths)

  pub marked_fits : a.total + b.total < 2 ^ 64
  marked_fits =
      let c : Counted = record { has_null = a.has_null || b.has_null; total = a.total + b.total } in
      counted_fits s (marks.start + 0) (marks.start + marks.count) (marked_from marks 0 (n + 1)) c reads
      (between_wider (marks.start + 0) (marks.start + 0) (marks.start + (0 + (n + 1))) (marks.start + marks.count) (omega arith) (omega (arith, below))
      (marked_from marks 0 (n + 1)) (marked_between marks (n + 1) 0))
      (marked_next c refl refl)

-- ---- a run behind others

pub joined_run : (marks : ValidityMask) (start count : ℕ) → marks.all ≡ true → start ≡ marks.start + marks.count
    → spots_marked (record { start = marks.start; count = marks.count + count; all = marks.all; set = marks.set })
    ≡ spots_marked marks ++ (blank_spots (marks.start + marks.count) (start - (marks.start + marks.count)) ++ run_spots start count)
joined_run marks start count all at =
    let none : 0 ≡ start - (marks.start + marks.count) = omega (arith, at) in
    run_marked (record { start = marks.start; count = marks.count + count; all = marks.all; set = marks.set }) all
    ∙ run_both marks.start marks.count count
    ∙ ap₂ (λ xs ys. xs ++ ys) (sym (run_marked marks all))
    (ap (λ s. run_spots s count) (sym at) ∙ ap (λ n. blank_spots (marks.start + marks.count) n ++ run_spots start count) none)

module _ (old new : ValidityMask) (start count : ℕ) (at : new.start ≡ old.start) (so_many : new.count ≡ start - old.start + count) (behind : old.start + old.count ≤ start)
    (same : (k : ℕ) → k < old.count → mark_of new k ≡ mark_of old k) (none : (k : ℕ) → old.count ≤ k → k < start - old.start → mark_of new k ≡ false)
    (these : (k : ℕ) → start - old.start ≤ k → k < start - old.start + count → mark_of new k ≡ true) where
  abbrev gap : ℕ
  gap = start - (old.start + old.count)

  old_part : marked_from new 0 old.count ≡ spots_marked old
  old_part =
      same_on (λ number. (new.start + number, mark_of new number)) (λ number. (old.start + number, mark_of old number)) 0 old.count
      (λ k from below. ap₂ (λ s m. (s + k, m)) at (same k (omega (arith, below))))

  gap_part : marked_from new (0 + old.count) gap ≡ blank_spots (old.start + old.count) gap
  gap_part =
      same_on (λ number. (new.start + number, mark_of new number)) (λ number. (old.start + number, false)) (0 + old.count) gap
      (λ k from below. ap₂ (λ s m. (s + k, m)) at (none k (omega (arith, from)) (omega (arith, below, behind))))
      ∙ moved_from (λ place. (place, false)) old.start (0 + old.count) (old.start + old.count) gap (omega arith)

  run_part : marked_from new (0 + old.count + gap) count ≡ run_spots start count
  run_part =
      same_on (λ number. (new.start + number, mark_of new number)) (λ number. (old.start + number, true)) (0 + old.count + gap) count
      (λ k from below. ap₂ (λ s m. (s + k, m)) at (these k (omega (arith, from, behind)) (omega (arith, below, behind))))
      ∙ moved_from (λ place. (place, true)) old.start (0 + old.count + gap) start count (omega (arith, behind))

  pub joined_marks : spots_marked new ≡ spots_marked old ++ (blank_spots (old.start + old.count) gap ++ run_spots start count)
  joined_marks =
      let parts : new.count ≡ old.count + (gap + count) = omega (arith, so_many, behind) in
      ap (marked_from new 0) parts
      ∙ marked_both new 0 old.count (gap + count)
      ∙ ap₂ (λ xs ys. xs ++ ys) old_part (marked_both new (0 + old.count) gap count ∙ ap₂ (λ xs ys. xs ++ ys) gap_part run_part)

-- ---- which of them are null

both_zeros : (mark valid : Bool) → (if not (mark && valid) then 1 else 0) ≡ (if not mark then 1 else 0) + (if not (not mark || valid) then 1 else 0)
both_zeros true true = refl
both_zeros true false = refl
both_zeros false true = refl
both_zeros false false = refl

module _ (validity : List ℕ) (start : ℕ) (old new : ℕ → Bool) where
  zeros_taken : (low n : ℕ) → ((k : ℕ) → low ≤ k → k < low + n → new k ≡ (old k && valid_in validity (start + k)))
      → zeros (map new (range_with_len low n))
      ≡ zeros (map old (range_with_len low n)) + zeros (map (is_shown validity) (map (λ k. (start + k, old k)) (range_with_len low n)))
  zeros_taken low zero each = refl
  zeros_taken low (suc n) each =
      omega (
        arith,
        sum_by-cons (λ bit. if not bit then 1 else 0) (new low) (map new (range_with_len (low + 1) n)),
        sum_by-cons (λ bit. if not bit then 1 else 0) (old low) (map old (range_with_len (low + 1) n)),
        sum_by-cons (λ bit. if not bit then 1 else 0) (is_shown validity (start + low, old low)) (map (is_shown validity) (map (λ k. (start + k, old k)) (range_with_len (low + 1) n))),
        ap {B = ℕ} (λ bit. if not bit then 1 else 0) (each low (omega arith) (omega arith)),
        both_zeros (old low) (valid_in validity (start + low)),
        zeros_taken (low + 1) n (λ k from below. each k (omega (arith, from)) (omega (arith, below))),
      )

  some_more : (a b x : ℕ) → b ≡ a + x → nat_lt a b ≡ not (x == 0)
  some_more a b zero is = le-ltb a b (omega (arith, is))
  some_more a b (suc x) is = lt-ltb a b (omega (arith, is)) ∙ ap not (sym (ne_eqb (suc x) 0 (λ none. omega (arith, none))))

  pub nulls_taken : (n : ℕ) → ((k : ℕ) → k < n → new k ≡ (old k && valid_in validity (start + k)))
      → nat_lt (zeros (map old (range_with_len 0 n))) (zeros (map new (range_with_len 0 n))) ≡ has_null validity (map (λ k. (start + k, old k)) (range_with_len 0 n))
  nulls_taken n each =
      some_more (zeros (map old (range_with_len 0 n))) (zeros (map new (range_with_len 0 n))) (zeros (map (is_shown validity) (map (λ k. (start + k, old k)) (range_with_len 0 n))))
      (zeros_taken 0 n (λ k from below. each k (omega (arith, below))))

pub same_marks : (xs ys : List ℕ) → pointwise nat_eq xs ys ≡ true → xs ≡ ys
same_marks [] [] same = refl
same_marks [] (y ∷ ys) same = absurd (true≢false (sym same))
same_marks (x ∷ xs) [] same = absurd (true≢false (sym same))
same_marks (x ∷ xs) (y ∷ ys) same =
    ap₂ (λ z zs. z ∷ zs) (eqb-true x y (first_true (nat_eq x y) (pointwise nat_eq xs ys) same)) (same_marks xs ys (and_true (nat_eq x y) (pointwise nat_eq xs ys) same))
  where
    first_true : (a b : Bool) → (a && b) ≡ true → a ≡ true
    first_true true b is = refl
    first_true false b is = is
