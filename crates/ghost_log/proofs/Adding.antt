-- The step that adds an entry keeps what always holds of a log.
use Rattle.std.proofs.Common.{◌≡◌, ℕ, ◌+◌, ◌<◌, ◌==◌, Bool, true, false, List, [], ◌∷◌, ◌++◌, length, refl, ap, sym, subst, arith, inl, length-append, None}
use Rattle.std.proofs.lemmas.List.{append-nil}
use Rattle.std.proofs.lemmas.Bool.Decides.{nat_tests}
use mathlib.Core.List.{IsPrefix}
use prog.Atomic.{either}
use Rattle.logbook.specs.Pages.{Cell, cell, keeps, no_nib, step, Moves, Goes}
use Rattle.ghost_log.specs.Rules.{IsCounted, Adds}
use Rattle.ghost_log.proofs.Beginnings.{prefix_whole}

abbrev pub shown : {E : Type 0} → List E → List E
shown log = []

abbrev pub moved : {E : Type 0} → List E → List E → ℕ → Type 0
moved before after answer = Unit {0}

adds_goes : {E : Type 0} (log seen : List E) (entry : E) (old : ℕ) → length seen ≡ old → IsPrefix seen log → (b : Bool) → (length log == old) ≡ b
    → Goes IsCounted shown moved 0 (seen, (no_nib, None)) (λ n. either (n == old) (old + 1) n) (Adds (step 0 old (old + 1) entry) (seen, (no_nib, None))) ((length log, true) ∷ (0, true) ∷ []) log
adds_goes log seen entry old len pre true is =
    let here : length log ≡ old = grind (arith, nat_tests) in
    let same : seen ≡ log = prefix_whole seen log pre (omega arith) in
    let n : either (length log == old) (old + 1) (length log) ≡ length (log ++ entry ∷ []) = rw is (omega (arith, length-append log (entry ∷ []))) in (
      keeps,
      entry ∷ [],
      None,
      tt,
      ap (λ (k : ℕ). (k, true) ∷ (0, true) ∷ []) n,
      inl (refl, refl),
      rw is (ap (λ w. w ++ entry ∷ []) (sym same)),
    )
adds_goes log seen entry old len pre false is =
    let all : log ++ [] ≡ log = append-nil log in
    let n : either (length log == old) (old + 1) (length log) ≡ length (log ++ []) = rw is (sym (ap length all)) in (
      keeps,
      [],
      None,
      tt,
      ap (λ (k : ℕ). (k, true) ∷ (0, true) ∷ []) n,
      inl (refl, refl),
      rw is (ap length all),
    )

-- whatever the log is, the entry is added to all that was seen, or the log is found to be longer
pub adds_moves : {E : Type 0} (seen : List E) (entry : E) (old : ℕ) → length seen ≡ old
    → Moves IsCounted shown moved 0 (seen, (no_nib, None)) (λ n. either (n == old) (old + 1) n) (Adds (step 0 old (old + 1) entry) (seen, (no_nib, None)))
adds_moves seen entry old len cells log kept pre away =
    let P : List Cell → Type 0 = λ c. (0 < length c) × ((cell c 0).1 ≡ true) × Goes IsCounted shown moved 0 (seen, (no_nib, None)) (λ n. either (n == old) (old + 1) n) (Adds (step 0 old (old + 1) entry) (seen, (no_nib, None))) c log in
    subst P (sym kept) (omega arith, refl, adds_goes log seen entry old len pre (length log == old) refl)
