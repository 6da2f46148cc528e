-- The texts of marks, one after the other.
use Rattle.std.proofs.Common.{◌≡◌, ℕ, zero, suc, ◌+◌, ◌<◌, List, [], ◌∷◌, ◌++◌, length, get_or, take, refl, sym, ap, ap₂, subst, ◌∙◌, append_assoc, arith}
use Rattle.std.specs.Prelude.{codes}
use Rattle.std.specs.List.{AllByRecursion}
use Rattle.std.proofs.lemmas.List.{take_more}
use Rattle.cluster_identity.specs.declared.file_mark.FileMark.{FileMark}
use Rattle.cluster_identity.specs.IdentityTexts.{mark_text, marks_text}

-- the text of one mark more, behind others
pub one_more : (first : FileMark) (later : List FileMark) (mark : FileMark)
    → marks_text ((first ∷ later) ++ mark ∷ []) ≡ marks_text (first ∷ later) ++ (codes "," ++ mark_text mark)
one_more first [] mark = refl
one_more first (next ∷ later) mark =
    ap (λ (l : List ℕ). mark_text first ++ (codes "," ++ l)) (one_more next later mark)
    ∙ sym (append_assoc (mark_text first) (codes "," ++ marks_text (next ∷ later)) (codes "," ++ mark_text mark))

-- ---- the text as far as a place, and the mark there

-- what is read of marks where none stands
abbrev pub blank : FileMark
blank = record { length = 0; digest = [] }

pub first_written : (marks : List FileMark) (place : ℕ) (old before one new : List ℕ) → place < length marks → place ≡ 0
    → old ≡ marks_text (take place marks) → before ≡ old → one ≡ mark_text (get_or marks place blank) → new ≡ before ++ one
    → new ≡ marks_text (take (place + 1) marks)
first_written [] place old before one new within first was same own is = let no : ⊥ = omega arith in absurd no
first_written (mark ∷ marks) zero old before one new within first was same own is = is ∙ ap₂ (λ (a b : List ℕ). a ++ b) (same ∙ was) own
first_written (mark ∷ marks) (suc place) old before one new within first was same own is = let no : ⊥ = omega arith in absurd no

pub later_written : (marks : List FileMark) (place : ℕ) (old before one new : List ℕ) → place < length marks → 0 < place
    → old ≡ marks_text (take place marks) → before ≡ old ++ codes "," → one ≡ mark_text (get_or marks place blank) → new ≡ before ++ one
    → new ≡ marks_text (take (place + 1) marks)
later_written [] place old before one new within some was comma own is = let no : ⊥ = omega arith in absurd no
later_written (mark ∷ marks) zero old before one new within some was comma own is = let no : ⊥ = omega arith in absurd no
later_written (mark ∷ marks) (suc place) old before one new within some was comma own is =
    let here = get_or marks place blank in
    let joined : new ≡ (marks_text (mark ∷ take place marks) ++ codes ",") ++ mark_text here
    = is ∙ ap₂ (λ (a b : List ℕ). a ++ b) (comma ∙ ap (λ (l : List ℕ). l ++ codes ",") was) own in
    joined ∙ append_assoc (marks_text (mark ∷ take place marks)) (codes ",") (mark_text here) ∙ sym (one_more mark (take place marks) here)
    ∙ ap marks_text (sym (take_more (mark ∷ marks) (suc place) blank within))

-- what holds of the marks as far as a place, and of the one there
module _ (P : FileMark → Type 0) where
  all_push : (marks : List FileMark) (mark : FileMark) → AllByRecursion P marks → P mark → AllByRecursion P (marks ++ mark ∷ [])
  all_push [] mark all p = (p, tt)
  all_push (first ∷ later) mark all p = (all.0, all_push later mark all.1 p)

  pub all_more : (marks : List FileMark) (place : ℕ) → place < length marks → AllByRecursion P (take place marks) → P (get_or marks place blank)
      → AllByRecursion P (take (place + 1) marks)
  all_more marks place within all p =
      subst (AllByRecursion P) (sym (take_more marks place blank within)) (all_push (take place marks) (get_or marks place blank) all p)
