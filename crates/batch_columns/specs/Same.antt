-- Whether two columns hold the same: one shape, and the same cells in order. Every value of the definitions is coded as a
-- tree of numbers, no two of them alike, and trees can be compared.
use Rattle.std.specs.Prelude.{◌≡◌, ◌==◌, ◌&&◌, Bool, true, false, refl}
use Rattle.std.specs.Cmp.{IsPartialEquivalence, IsEquivalence}
use Rattle.std.proofs.Common.{sym, ap, ap₂, ◌∙◌, eq-eqb}
use Rattle.std.proofs.lemmas.Bool.{eqb-true, and_parts}
use base.Stored.{Gv, gnil, gnum, gcons}
use Rattle.batch_columns.specs.Contents.{Contents}
use Rattle.batch_columns.specs.Coding.{coded_contents}

abbrev same_code : Gv → Gv → Bool
same_code gnil gnil = true
same_code gnil (gnum n) = false
same_code gnil (gcons c d) = false
same_code (gnum m) gnil = false
same_code (gnum m) (gnum n) = m == n
same_code (gnum m) (gcons c d) = false
same_code (gcons a b) gnil = false
same_code (gcons a b) (gnum n) = false
same_code (gcons a b) (gcons c d) = same_code a c && same_code b d

-- they have one code
unfoldable pub same_contents : Contents → Contents → Bool
same_contents x y = same_code (coded_contents.code x) (coded_contents.code y)

-- ---- so it is exactly where they are equal

one_code : (a b : Gv) → same_code a b ≡ true → a ≡ b
one_code gnil gnil same = refl
one_code gnil (gnum n) same = cc
one_code gnil (gcons c d) same = cc
one_code (gnum m) gnil same = cc
one_code (gnum m) (gnum n) same = ap gnum (eqb-true m n same)
one_code (gnum m) (gcons c d) same = cc
one_code (gcons a b) gnil same = cc
one_code (gcons a b) (gnum n) same = cc
one_code (gcons a b) (gcons c d) same =
    let parts = and_parts (same_code a c) (same_code b d) same in
    ap₂ gcons (one_code a c parts.0) (one_code b d parts.1)

own_code : (a : Gv) → same_code a a ≡ true
own_code gnil = refl
own_code (gnum n) = eq-eqb n n refl
own_code (gcons a b) = ap₂ ◌&&◌ (own_code a) (own_code b)

pub equal : (x y : Contents) → same_contents x y ≡ true → x ≡ y
unfolding same_contents
equal x y same = coded_contents.inj x y (one_code (coded_contents.code x) (coded_contents.code y) same)

pub same : (x y : Contents) → x ≡ y → same_contents x y ≡ true
unfolding same_contents
same x y is =
    ap (λ z. same_code (coded_contents.code x) (coded_contents.code z)) (sym is)
    ∙ own_code (coded_contents.code x)

pub either_way : (a b : Bool) → (a ≡ true → b ≡ true) → (b ≡ true → a ≡ true) → a ≡ b
either_way true b to from = sym (to refl)
either_way false true to from = from refl
either_way false false to from = refl

pub same_is_mutual : (x y : Contents) → same_contents x y ≡ same_contents y x
same_is_mutual x y =
    either_way (same_contents x y) (same_contents y x) (λ is. same y x (sym (equal x y is)))
    (λ is. same x y (sym (equal y x is)))

pub same_laws : IsPartialEquivalence same_contents
same_laws = record {
  symm = same_is_mutual;
  trans = λ x y z xy yz. same x z (equal x y xy ∙ equal y z yz);
}

pub same_equivalence : IsEquivalence same_contents
same_equivalence = record {
  refl = λ x. same x x refl;
  symm = same_is_mutual;
  congr = λ x y z xy. ap (λ w. same_contents w z) (equal x y xy);
}
