-- Keeps cut short.
use Rattle.std.proofs.Common.{◌≡◌, inl, inr, ◌≤◌, List, [], ◌∷◌, ◌++◌, length, ap, sym, ◌∙◌, arith, Some, Result, Ok, Err, append_assoc, append-nil}
use Rattle.std.proofs.Math.Seq.{take-append_seam}
use Rattle.std.proofs.lemmas.List.{take-append-le, take_all, length_push}
use Rattle.ballots.specs.declared.record.Record.{Record}
use Rattle.stable_records.specs.declared.fault.StoreFault.{StoreFault}
use Rattle.stable_records.specs.declared.fault.StoreFault.TheVariants.{Device, Damaged, Broken, OutOfMemory}
use Rattle.stable_records.specs.Found.{Found, FindsOnly, IsWithOrWithout, IsCutShort}
use Rattle.stable_records.specs.Calls.{LeftInKeep}
use Rattle.stable_records.proofs.CallerLemmas.{some_is}

pub cut_at_none : (records : List Record) (found : Found) → found ≡ Some records → IsCutShort records [] found
cut_at_none records found is = (0, omega arith, is ∙ ap (λ l. Some l) (sym (append-nil records)))

-- one keep more
pub cut_earlier : (records told : List Record) (last : Record) (found : Found) → IsCutShort records told found
    → IsCutShort records (told ++ last ∷ []) found
cut_earlier records told last found cut =
    let le : cut.0 ≤ length told = cut.1 in
    let long = length_push told last in
    (cut.0, omega arith, cut.2 ∙ ap (λ l. Some (records ++ l)) (sym (take-append-le cut.0 told (last ∷ []) le)))

cut_before_last : (records told : List Record) (last : Record) (found : Found) → found ≡ Some (records ++ told)
    → IsCutShort records (told ++ last ∷ []) found
cut_before_last records told last found is =
    let long = length_push told last in
    (length told, omega arith, is ∙ ap (λ l. Some (records ++ l)) (sym (take-append_seam told (last ∷ []))))

cut_behind_last : (records told : List Record) (last : Record) (found : Found)
    → found ≡ Some ((records ++ told) ++ last ∷ []) → IsCutShort records (told ++ last ∷ []) found
cut_behind_last records told last found is = (
  length (told ++ last ∷ []),
  omega arith,
  is ∙ ap (λ l. Some l) (append_assoc records told (last ∷ []))
      ∙ ap (λ l. Some (records ++ l)) (sym (take_all (length (told ++ last ∷ [])) (told ++ last ∷ []) (omega arith))),
)

cut_with_or_without : (finds : Found → Type 0) (records told : List Record) (last : Record) (found : Found)
    → FindsOnly finds (records ++ told) → IsWithOrWithout last finds found → IsCutShort records (told ++ last ∷ []) found
cut_with_or_without finds records told last found only (inl before) =
    cut_before_last records told last found (only.nothing_else found before)
cut_with_or_without finds records told last found only (inr with) =
    let same = some_is with.0 (records ++ told) (only.nothing_else (Some with.0) with.1) in
    cut_behind_last records told last found (with.2 ∙ ap (λ l. Some (l ++ last ∷ [])) same)

pub cut_in_keep : (finds : Found → Type 0) (records told : List Record) (last : Record) {T : Type 0}
    (answer : Result T StoreFault) (found : Found) → FindsOnly finds (records ++ told)
    → LeftInKeep last answer finds found → IsCutShort records (told ++ last ∷ []) found
cut_in_keep finds records told last (Ok _) found only left = cut_with_or_without finds records told last found only left
cut_in_keep finds records told last (Err Device) found only left =
    cut_with_or_without finds records told last found only left
cut_in_keep finds records told last (Err Damaged) found only left = absurd left
cut_in_keep finds records told last (Err Broken) found only left =
    cut_before_last records told last found (only.nothing_else found left)
cut_in_keep finds records told last (Err OutOfMemory) found only left =
    cut_before_last records told last found (only.nothing_else found left)
