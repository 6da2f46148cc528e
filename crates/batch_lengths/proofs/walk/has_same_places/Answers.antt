use Rattle.std.proofs.Common.{◌≡◌, refl, ap, ◌∙◌, ℕ, ◌*◌, List, [], ◌∷◌, arith}
use Rattle.std.proofs.lemmas.Bool.{eqb-true}
use Rattle.batch_types.specs.Layouts.{fixed_size_list_layout}
use Rattle.batch_columns.specs.Held.{layout_named}
use Rattle.batch_reading.specs.Spots.{Spot}
use Rattle.batch_reading.specs.Planned.{spots_inside}
use Rattle.batch_reading.proofs.Planning.{same_in_struct}
use Rattle.batch_lengths.specs.Reach.{end_inside}
use Rattle.batch_lengths.proofs.walk.has_same_places.Goals as goal

one_each : (size : ℕ) → size ≡ 1 → (offsets : List ℕ) (spots : List Spot) → spots_inside (fixed_size_list_layout size) offsets spots ≡ spots
one_each size is offsets spots = ap (λ n. spots_inside (fixed_size_list_layout n) offsets spots) is ∙ of_one spots
  where
    of_one : (xs : List Spot) → spots_inside (fixed_size_list_layout 1) offsets xs ≡ xs
    of_one [] = refl
    of_one (x ∷ xs) =
        let same : 1 * x.0 ≡ x.0 = omega arith in
        ap (λ p. (p, x.1) ∷ spots_inside (fixed_size_list_layout 1) offsets xs) same ∙ ap (λ l. x ∷ l) (of_one xs)

once : (size : ℕ) → size ≡ 1 → (end : ℕ) → size * end ≡ end
once size is end = let same : 1 * end ≡ end = omega arith in ap (λ n. n * end) is ∙ same

pub returns-in-Struct : goal.returns-in-Struct
returns-in-Struct c = record {
  spots = λ yes_is offsets spots. ap (λ l. spots_inside (layout_named l) offsets spots) c.in-Struct.is ∙ same_in_struct offsets spots;
  ends = λ yes_is offsets end. ap (λ l. end_inside (layout_named l) offsets end) c.in-Struct.is;
}

pub returns-in-FixedSizeList : goal.returns-in-FixedSizeList
returns-in-FixedSizeList c = record {
  spots = λ so offsets spots.
      ap (λ l. spots_inside (layout_named l) offsets spots) c.in-FixedSizeList.is ∙ one_each c.in-FixedSizeList.size (eqb-true c.in-FixedSizeList.size 1 so) offsets spots;
  ends = λ so offsets end.
      ap (λ l. end_inside (layout_named l) offsets end) c.in-FixedSizeList.is ∙ once c.in-FixedSizeList.size (eqb-true c.in-FixedSizeList.size 1 so) end;
}
