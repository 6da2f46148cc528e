-- Entries that are made one by one, and what a file has of them.
use Rattle.std.proofs.Common.{◌≡◌, ℕ, zero, suc, ◌+◌, ◌*◌, ◌<◌, ◌≤◌, ◌/◌, List, [], ◌∷◌, ◌++◌, length, take, drop, slice_get, Option, Some, None, MatchOption, inl, inr, rules, refl, sym, ap, subst, ◌∙◌, arith, append_assoc}
use Rattle.std.proofs.lemmas.List.{length-take, length-drop, take_more}
use Rattle.std.proofs.lemmas.Option.{same_Some, slice_get_within}
use Rattle.std.proofs.lemmas.Bool.{cases_lt}
use Rattle.std.specs.Prelude.{get_or}
use Rattle.ballots.specs.declared.record.Record.{Record}
use Rattle.record_sums.specs.Sums.{IsMisfit, IsFirstMisfit, Fits, bytes_at, entry_of}
use Rattle.record_sums.specs.Entering.{AreEntries, entries_text}
use Rattle.record_sums.specs.Checking.{IsWrongAt}

-- no entry stands where the file has too few bytes for it
pub none_beyond : (file : List ℕ) (entries : List (List ℕ)) (number : ℕ) → length file / 24 ≤ number
    → IsWrongAt file entries number → ⊥
none_beyond file entries number beyond wrong =
    let whole = wrong.stands.whole in
    let taken = length-take 24 (drop (24 * number) file) in
    let dropped = length-drop (24 * number) file in
    absurd (omega (arith, whole, taken, dropped, beyond))

-- what is seen of the entries below a number, and of all that the file has room for
pub none_wrong : (file : List ℕ) (entries : List (List ℕ)) (count : ℕ) → length file / 24 ≤ count
    → ((other : ℕ) → other < count → IsWrongAt file entries other → ⊥)
    → (number : ℕ) → IsWrongAt file entries number → ⊥
none_wrong file entries count all below number wrong =
    elim (cases_lt number count) as (λ _. ⊥) [
      | inl inside ↦ below number inside wrong
      | inr beyond ↦ none_beyond file entries number (omega (arith, all, beyond)) wrong
    ]

pub one_more_seen : (file : List ℕ) (entries : List (List ℕ)) (count : ℕ)
    → ((other : ℕ) → other < count → IsWrongAt file entries other → ⊥) → (IsWrongAt file entries count → ⊥)
    → (other : ℕ) → other < count + 1 → IsWrongAt file entries other → ⊥
one_more_seen file entries count below here other within wrong =
    elim (cases_lt other count) as (λ _. ⊥) [
      | inl inside ↦ below other inside wrong
      | inr beyond ↦
          let same : other ≡ count = omega (arith, within, beyond) in
          here (subst (IsWrongAt file entries) same wrong)
    ]

-- ---- one entry more

entries_more : (entries : List (List ℕ)) (entry : List ℕ) → entries_text (entries ++ entry ∷ []) ≡ entries_text entries ++ entry
entries_more [] entry = search rules
entries_more (first ∷ later) entry =
    ap (λ (l : List ℕ). first ++ l) (entries_more later entry) ∙ sym (append_assoc first (entries_text later) entry)

pub text_more : (entries : List (List ℕ)) (number : ℕ) (other old new : List ℕ) → number < length entries
    → old ≡ entries_text (take number entries) → new ≡ old ++ get_or entries number other
    → new ≡ entries_text (take (number + 1) entries)
text_more entries number other old new within so_far is =
    is ∙ ap (λ (l : List ℕ). l ++ get_or entries number other) so_far
    ∙ sym (entries_more (take number entries) (get_or entries number other)) ∙ sym (ap entries_text (take_more entries number other within))

-- ---- the entries that are due are those of the records

pub some_is_none : {X : Type 0} (x : X) → Some x ≡ None → ⊥
some_is_none x same = cc

pub no_record : (records : List Record) (number : ℕ) → number < length records → slice_get records number ≡ None → ⊥
no_record [] number within none = absurd (omega (arith, within))
no_record (told ∷ later) zero within none = some_is_none told none
no_record (told ∷ later) (suc number) within none = no_record later number (omega (arith, within)) none

not_due : (file : List ℕ) (entries : List (List ℕ)) (records : List Record) (number : ℕ) (entry : List ℕ) (found : Option Record)
    → AreEntries entries records → IsMisfit file records number → slice_get entries number ≡ Some entry
    → slice_get records number ≡ found → bytes_at file number ≡ entry → ⊥
not_due file entries records number entry None are misfit due found same =
    no_record records number (omega (arith, slice_get_within entries number entry due, are.all)) found
not_due file entries records number entry (Some told) are misfit due found same =
    misfit.differs told found (same ∙ same_Some entry (entry_of number told) (sym due ∙ are.each number told found))

pub misfit_is_wrong : (file : List ℕ) (entries : List (List ℕ)) (records : List Record) (number : ℕ) → AreEntries entries records
    → IsMisfit file records number → IsWrongAt file entries number
misfit_is_wrong file entries records number are misfit = record {
  stands = misfit.stands;
  differs = λ entry due same. not_due file entries records number entry (slice_get records number) are misfit due refl same;
}

pub wrong_is_misfit : (file : List ℕ) (entries : List (List ℕ)) (records : List Record) (number : ℕ) → AreEntries entries records
    → IsWrongAt file entries number → IsMisfit file records number
wrong_is_misfit file entries records number are wrong = record {
  stands = wrong.stands;
  differs = λ told found. wrong.differs (entry_of number told) (are.each number told found);
}

pub found_misfit : (file : List ℕ) (entries : List (List ℕ)) (records : List Record) (found : Option ℕ) → AreEntries entries records
    → (found ≡ None → (number : ℕ) → IsWrongAt file entries number → ⊥)
    → ((number : ℕ) → found ≡ Some number → IsWrongAt file entries number)
    → ((number other : ℕ) → found ≡ Some number → other < number → IsWrongAt file entries other → ⊥)
    → MatchOption found (Fits file records) (IsFirstMisfit file records)
found_misfit file entries records None are none first before =
    λ number misfit. none refl number (misfit_is_wrong file entries records number are misfit)
found_misfit file entries records (Some number) are none first before = record {
  misfit = wrong_is_misfit file entries records number are (first number refl);
  before = λ other below misfit. before number other refl below (misfit_is_wrong file entries records other are misfit);
}
