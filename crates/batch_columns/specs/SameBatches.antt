-- Whether two batches hold the same: as many rows, and equal columns in order.
use Rattle.std.specs.Prelude.{◌≡◌, ◌==◌, ◌&&◌, Bool, true, false, List, [], ◌∷◌, refl}
use Rattle.std.specs.Cmp.{IsPartialEquivalence, IsEquivalence}
use Rattle.std.proofs.Common.{sym, ap, ap₂, ◌∙◌, eq-eqb}
use Rattle.std.proofs.lemmas.Bool.{eqb-true, and_parts}
use Rattle.batch_columns.specs.Contents.{Contents}
use Rattle.batch_columns.specs.Same.{same_contents, equal, same, either_way}
use Rattle.batch_columns.specs.declared.batch.Batch.{Batch}

pub record HoldTheSame (x y : Batch) : Type 0 where
  pub rows : x.rows ≡ y.rows
  pub columns : x.columns.items ≡ y.columns.items

-- as many columns, each the same as the other
abbrev pub same_columns : List Contents → List Contents → Bool
same_columns [] [] = true
same_columns [] (y ∷ ys) = false
same_columns (x ∷ xs) [] = false
same_columns (x ∷ xs) (y ∷ ys) = same_contents x y && same_columns xs ys

abbrev pub same_batches : Batch → Batch → Bool
same_batches x y = (x.rows == y.rows) && same_columns x.columns.items y.columns.items

-- ---- so it is exactly where they hold the same

columns_equal : (xs ys : List Contents) → same_columns xs ys ≡ true → xs ≡ ys
columns_equal [] [] is = refl
columns_equal [] (y ∷ ys) is = cc
columns_equal (x ∷ xs) [] is = cc
columns_equal (x ∷ xs) (y ∷ ys) is =
    let parts = and_parts (same_contents x y) (same_columns xs ys) is in
    ap₂ (λ c cs. c ∷ cs) (equal x y parts.0) (columns_equal xs ys parts.1)

own_columns : (xs : List Contents) → same_columns xs xs ≡ true
own_columns [] = refl
own_columns (x ∷ xs) = ap₂ ◌&&◌ (same x x refl) (own_columns xs)

pub batches_equal : (x y : Batch) → same_batches x y ≡ true → HoldTheSame x y
batches_equal x y is =
    let parts = and_parts (x.rows == y.rows) (same_columns x.columns.items y.columns.items) is in record {
      rows = eqb-true x.rows y.rows parts.0;
      columns = columns_equal x.columns.items y.columns.items parts.1;
    }

pub batches_same : (x y : Batch) → HoldTheSame x y → same_batches x y ≡ true
batches_same x y hold =
    ap₂ ◌&&◌ (eq-eqb x.rows y.rows hold.rows)
    (ap (λ l. same_columns x.columns.items l) (sym hold.columns) ∙ own_columns x.columns.items)

turned : (x y : Batch) → HoldTheSame x y → HoldTheSame y x
turned x y hold = record { rows = sym hold.rows; columns = sym hold.columns }

then_too : (x y z : Batch) → HoldTheSame x y → HoldTheSame y z → HoldTheSame x z
then_too x y z xy yz = record { rows = xy.rows ∙ yz.rows; columns = xy.columns ∙ yz.columns }

pub batches_are_mutual : (x y : Batch) → same_batches x y ≡ same_batches y x
batches_are_mutual x y =
    either_way (same_batches x y) (same_batches y x) (λ is. batches_same y x (turned x y (batches_equal x y is)))
    (λ is. batches_same x y (turned y x (batches_equal y x is)))

pub batch_laws : IsPartialEquivalence same_batches
batch_laws = record {
  symm = batches_are_mutual;
  trans = λ x y z xy yz. batches_same x z (then_too x y z (batches_equal x y xy) (batches_equal y z yz));
}

pub batch_equivalence : IsEquivalence same_batches
batch_equivalence = record {
  refl = λ x. batches_same x x (record { rows = refl; columns = refl });
  symm = batches_are_mutual;
  congr = λ x y z xy.
      either_way (same_batches x z) (same_batches y z)
      (λ xz. batches_same y z (then_too y x z (turned x y (batches_equal x y xy)) (batches_equal x z xz)))
      (λ yz. batches_same x z (then_too x y z (batches_equal x y xy) (batches_equal y z yz)));
}
