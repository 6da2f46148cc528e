-- What a file of sums says of records that are gone or changed, and of one that is more.
use Rattle.std.proofs.Common.{◌≡◌, ◌≢◌, ◌⊎◌, ℕ, zero, suc, ◌+◌, ◌-◌, ◌*◌, ◌<◌, ◌≤◌, List, [], ◌∷◌, ◌++◌, length, take, drop, slice_get, Option, Some, None, inl, inr, refl, sym, ap, subst, ◌∙◌, arith, append_assoc, length-append}
use Rattle.std.proofs.lemmas.List.{length-take, length-take-le, take_at, take-take, take-append-le, drop_at, drop-take, drop-append-le, length-drop}
use Rattle.std.proofs.lemmas.Slice.{drop-append-drop}
use Rattle.std.proofs.lemmas.Option.{same_Some, slice_get_past, slice_get_within}
use Rattle.std.proofs.lemmas.Bool.{cases_lt, cases_eq}
use Rattle.md5.proofs.StandardFacts.{length-md5}
use Rattle.disk_records.specs.Disk.{written_at}
use Rattle.ballots.specs.Record.{canonical_record}
use Rattle.ballots.specs.declared.record.Record.{Record}
use Rattle.record_sums.specs.Sums.{IsEntered, IsEntry, IsMisfit, Fits, HasAll, bytes_at, entry_of, seal_of, sum_of}
use Rattle.record_sums.proofs.Entries.{no_record, some_is_none}
use Rattle.record_sums.proofs.Files.{entry_is_sized}

-- ---- two lists are the same, or are not

same_head : (x y : ℕ) (xs ys : List ℕ) → x ∷ xs ≡ y ∷ ys → x ≡ y
same_head x y xs ys same = cc

same_tail : (x y : ℕ) (xs ys : List ℕ) → x ∷ xs ≡ y ∷ ys → xs ≡ ys
same_tail x y xs ys same = cc

behind_heads : (x y : ℕ) (xs ys : List ℕ) → x ≡ y → (xs ≡ ys) ⊎ (xs ≢ ys) → (x ∷ xs ≡ y ∷ ys) ⊎ (x ∷ xs ≢ y ∷ ys)
behind_heads x y xs ys heads (inl tails) = inl (cc)
behind_heads x y xs ys heads (inr tails) = inr (λ same. tails (same_tail x y xs ys same))

are_same : (xs ys : List ℕ) → (xs ≡ ys) ⊎ (xs ≢ ys)
are_same [] [] = inl refl
are_same [] (y ∷ ys) = inr (λ same. absurd (cc))
are_same (x ∷ xs) [] = inr (λ same. absurd (cc))
are_same (x ∷ xs) (y ∷ ys) =
    elim (cases_eq x y) as (λ _. (x ∷ xs ≡ y ∷ ys) ⊎ (x ∷ xs ≢ y ∷ ys)) [
      | inl heads ↦ behind_heads x y xs ys heads (are_same xs ys)
      | inr other ↦ inr (λ same. other (same_head x y xs ys same))
    ]

-- ---- what was entered is found

sum_is_sized : (told : Record) → length (sum_of told) ≡ 16
sum_is_sized told = length-md5 (canonical_record told)

sum_in : (number : ℕ) (told : Record) → take 16 (entry_of number told) ≡ sum_of told
sum_in number told = take_at (sum_of told) (seal_of number (sum_of told)) 16 (sum_is_sized told)

is_entry : (number : ℕ) (told : Record) → IsEntry number (entry_of number told)
is_entry number told = record {
  whole = entry_is_sized number told;
  sealed = drop_at (sum_of told) (seal_of number (sum_of told)) 16 (sum_is_sized told) ∙ ap (seal_of number) (sym (sum_in number told));
}

same_sum : (number : ℕ) (told other : Record) → entry_of number told ≡ entry_of number other → sum_of other ≡ sum_of told
same_sum number told other same = sym (sum_in number other) ∙ sym (ap (take 16) same) ∙ sum_in number told

found_as : (file : List ℕ) (found : List Record) (number : ℕ) (told : Record) (at : Option Record) → bytes_at file number ≡ entry_of number told
    → Fits file found → slice_get found number ≡ at
    → (other : Record) × (slice_get found number ≡ Some other) × (sum_of other ≡ sum_of told)
found_as file found number told None stands fits at =
    absurd (fits number (record {
      stands = subst (IsEntry number) (sym stands) (is_entry number told);
      differs = λ other is. absurd (some_is_none other (sym is ∙ at));
    }))
found_as file found number told (Some other) stands fits at =
    elim (are_same (entry_of number told) (entry_of number other)) as (λ _. (o : Record) × (slice_get found number ≡ Some o) × (sum_of o ≡ sum_of told)) [
      | inl same ↦ (other, at, same_sum number told other same)
      | inr differs ↦ absurd (fits number (record {
        stands = subst (IsEntry number) (sym stands) (is_entry number told);
        differs = λ o is same.
            differs (sym stands ∙ same ∙ ap (entry_of number) (same_Some o other (sym is ∙ at)));
      }))
    ]

pub what_was_entered : (file : List ℕ) (kept found : List Record) (number : ℕ) (told : Record) → HasAll file kept → Fits file found
    → slice_get kept number ≡ Some told
    → (other : Record) × (slice_get found number ≡ Some other) × (sum_of other ≡ sum_of told)
what_was_entered file kept found number told all fits at =
    found_as file found number told (slice_get found number) (all number told at) fits refl

-- ---- one record more

get_before : (xs : List Record) (y : Record) (k : ℕ) → k < length xs → slice_get (xs ++ y ∷ []) k ≡ slice_get xs k
get_before [] y k within = absurd (omega (arith, within))
get_before (x ∷ xs) y zero within = refl
get_before (x ∷ xs) y (suc k) within = get_before xs y k (omega (arith, within))

get_last : (xs : List Record) (y : Record) → slice_get (xs ++ y ∷ []) (length xs) ≡ Some y
get_last [] y = refl
get_last (x ∷ xs) y = get_last xs y

-- the part of a file before what is written stays
stays_before : (file written : List ℕ) (count k : ℕ) → 24 * count ≤ length file → k < count
    → take 24 (drop (24 * k) (take (24 * count) file ++ written)) ≡ bytes_at file k
stays_before file written count k within below =
    let place = 24 * k in
    let front = take (24 * count) file in
    let more = 24 * count - place in
    let sized : length front ≡ 24 * count = length-take-le (24 * count) file within in
    let both : place + more ≡ 24 * count = omega (arith, below) in
    let cut : drop place front ≡ take more (drop place file) =
    ap (λ (n : ℕ). drop place (take n file)) (sym both) ∙ drop-take place more file in
    let long : 24 ≤ length (take more (drop place file)) =
    omega (arith, length-take more (drop place file), length-drop place file, within, below) in
    ap (take 24) (drop-append-le place front written (omega (arith, sized, below)))
    ∙ ap (λ (l : List ℕ). take 24 (l ++ written)) cut
    ∙ take-append-le 24 (take more (drop place file)) written long
    ∙ take-take 24 more (drop place file) (omega (arith, below))

-- the entry that was written stands
stands_at : (file entry : List ℕ) (count : ℕ) → 24 * count ≤ length file → length entry ≡ 24
    → bytes_at (written_at file (24 * count) entry) count ≡ entry
stands_at file entry count within sized =
    let front = take (24 * count) file in
    let rest = drop (24 * count + length entry) file in
    ap (take 24) (drop_at front (entry ++ rest) (24 * count) (length-take-le (24 * count) file within))
    ∙ take_at entry rest 24 sized

-- what stands behind it stays
stays_behind : (file entry : List ℕ) (count k : ℕ) → 24 * count ≤ length file → length entry ≡ 24 → count < k
    → bytes_at (written_at file (24 * count) entry) k ≡ bytes_at file k
stays_behind file entry count k within sized above =
    let front = take (24 * count) file in
    let size = 24 * count + length entry in
    let whole : length (front ++ entry) ≡ size = omega (arith, length-append front entry, length-take-le (24 * count) file within) in
    ap (λ (l : List ℕ). take 24 (drop (24 * k) l)) (sym (append_assoc front entry (drop size file)))
    ∙ ap (take 24) (drop-append-drop size file (front ++ entry) (24 * k) (omega (arith, sized, above)) whole)

all_more : (file : List ℕ) (records : List Record) (told : Record) → 24 * length records ≤ length file → HasAll file records
    → HasAll (written_at file (24 * length records) (entry_of (length records) told)) (records ++ told ∷ [])
all_more file records told within all number other at =
    let count = length records in
    let entry = entry_of count told in
    let new = written_at file (24 * count) entry in
    elim (cases_lt number count) as (λ _. bytes_at new number ≡ entry_of number other) [
      | inl below ↦
          stays_before file (entry ++ drop (24 * count + length entry) file) count number within below
          ∙ all number other (sym (get_before records told number below) ∙ at)
      | inr above ↦
          let inside : number < length (records ++ told ∷ []) = slice_get_within (records ++ told ∷ []) number other at in
          let last : number ≡ count = omega (arith, above, inside, length-append records (told ∷ [])) in
          let is : told ≡ other = same_Some told other (sym (get_last records told) ∙ ap (slice_get (records ++ told ∷ [])) (sym last) ∙ at) in
          ap (bytes_at new) last ∙ stands_at file entry count within (entry_is_sized count told)
          ∙ ap (λ (n : ℕ). entry_of n told) (sym last) ∙ ap (entry_of number) is
    ]

-- a record that is there has its entry, and is no misfit
misfit_here : (new : List ℕ) (both : List Record) (number : ℕ) (at : Option Record) → number < length both → HasAll new both
    → slice_get both number ≡ at → IsMisfit new both number → ⊥
misfit_here new both number None inside all at misfit = no_record both number inside at
misfit_here new both number (Some other) inside all at misfit = misfit.differs other at (all number other at)

misfit_within : (new : List ℕ) (records : List Record) (told : Record) (number : ℕ) → number ≤ length records
    → HasAll new (records ++ told ∷ []) → IsMisfit new (records ++ told ∷ []) number → ⊥
misfit_within new records told number most all misfit =
    let both = records ++ told ∷ [] in
    misfit_here new both number (slice_get both number) (omega (arith, most, length-append records (told ∷ []))) all refl misfit

none_past : (xs : List Record) (k : ℕ) (x : Record) → length xs ≤ k → slice_get xs k ≡ Some x → ⊥
none_past xs k x past at = some_is_none x (sym at ∙ slice_get_past xs k past)

misfit_more : (file : List ℕ) (records : List Record) (told : Record) (number : ℕ) → 24 * length records ≤ length file
    → IsEntered file records
    → IsMisfit (written_at file (24 * length records) (entry_of (length records) told)) (records ++ told ∷ []) number → ⊥
misfit_more file records told number within entered misfit =
    let count = length records in
    let entry = entry_of count told in
    let new = written_at file (24 * count) entry in
    let all = all_more file records told within entered.all in
    elim (cases_lt count number) as (λ _. ⊥) [
      | inl above ↦
          entered.fits number (record {
            stands = subst (IsEntry number) (stays_behind file entry count number within (entry_is_sized count told) above) misfit.stands;
            differs = λ other at. absurd (none_past records number other (omega (arith, above)) at);
          })
      | inr most ↦ misfit_within new records told number most all misfit
    ]

pub one_more : (file : List ℕ) (records : List Record) (told : Record) → 24 * length records ≤ length file → IsEntered file records
    → IsEntered (written_at file (24 * length records) (entry_of (length records) told)) (records ++ told ∷ [])
one_more file records told within entered = record {
  fits = λ number misfit. misfit_more file records told number within entered misfit;
  all = all_more file records told within entered.all;
}
