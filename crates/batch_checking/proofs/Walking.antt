-- From a place up to the row of the batch that it belongs to.
use Rattle.std.proofs.Common.{◌≡◌, refl, sym, ap, ◌∙◌, subst, ℕ, zero, suc, ◌+◌, ◌<◌, List, [], ◌∷◌, ◌++◌, length, get_or, take, Option, Some, None, pos, arith}
use Rattle.std.specs.List.{AllByRecursion, filter, range_with_len}
use Rattle.std.proofs.lemmas.List.{take_more}
use Rattle.batch_types.specs.Placed.{is_valid}
use Rattle.batch_types.specs.Rules.{places_of}
use Rattle.batch_columns.specs.Held.{layout_named}
use Rattle.batch_columns.specs.declared.layout.Layout.TheVariants.{Null}
use Rattle.batch_columns.specs.declared.encoded_column.EncodedColumn.{EncodedColumn}
use Rattle.batch_checking.specs.Around.{Holds, IsValidAt, StandsInside, source_places, places_around, IsSteadySource, AreSteady}
use Rattle.batch_checking.proofs.Held.{held_flat, flat_held, held_filter, filter_held, below_held, held_range, range_held}

pub held_inside : (s : EncodedColumn) (places : List ℕ) (row place : ℕ) → Holds places row → IsValidAt s row → StandsInside s row place → Holds (source_places s places) place
held_inside s places row place there valid stands =
    held_flat (places_of (layout_named s.layout) s.offsets.now) (filter (is_valid (layout_named s.layout) s.validity.now) places) row place
    (held_filter (is_valid (layout_named s.layout) s.validity.now) places row there valid) stands

pub inside_held : (s : EncodedColumn) (places : List ℕ) (place : ℕ) → Holds (source_places s places) place
    → (row : ℕ) × Holds places row × IsValidAt s row × StandsInside s row place
inside_held s places place held =
    let (row, there, stands) = flat_held (places_of (layout_named s.layout) s.offsets.now) (filter (is_valid (layout_named s.layout) s.validity.now) places) place held in
    let (at, valid) = filter_held (is_valid (layout_named s.layout) s.validity.now) places row there in
    (row, at, valid, stands)

pub around_more : (places : List ℕ) (xs : List EncodedColumn) (s : EncodedColumn) → places_around places (xs ++ s ∷ []) ≡ source_places s (places_around places xs)
around_more places [] s = refl
around_more places (x ∷ xs) s = around_more (source_places x places) xs s

pub steady_more : (places : List ℕ) (xs : List EncodedColumn) (s : EncodedColumn) → AreSteady places xs → AllByRecursion (λ row. row < s.length) (places_around places xs)
    → IsSteadySource s → AreSteady places (xs ++ s ∷ [])
steady_more places [] s all below steady = (below, steady, tt)
steady_more places (x ∷ xs) s all below steady = (all.0, all.1, steady_more (source_places x places) xs s all.2 below steady)

pub steady_at : (places : List ℕ) (xs : List EncodedColumn) (d : ℕ) (s e : EncodedColumn) → AreSteady places xs → d < length xs → s ≡ get_or xs d e
    → AllByRecursion (λ row. row < s.length) (places_around places (take d xs)) × IsSteadySource s
steady_at places [] d s e all there is = absurd (omega arith)
steady_at places (x ∷ xs) zero s e all there is =
    subst (λ (y : EncodedColumn). AllByRecursion (λ row. row < y.length) places × IsSteadySource y) (sym is) (all.0, all.1)
steady_at places (x ∷ xs) (suc d) s e all there is = steady_at (source_places x places) xs d s e all.2 (omega arith) is

some_same : (a b : ℕ) → Some a ≡ Some b → a ≡ b
some_same a b e = cc

module _ (places : List ℕ) (xs : List EncodedColumn) (all : AreSteady places xs) (depth d : ℕ) (next : d + 1 ≡ depth) (there : d < length xs)
    (s e : EncodedColumn) (is : s ≡ get_or xs d e) where
  one_up : places_around places (take depth xs) ≡ source_places s (places_around places (take d xs))
  one_up =
      ap (λ n. places_around places (take n xs)) (sym next) ∙ ap (places_around places) (take_more xs d e there ∙ ap (λ x. take d xs ++ x ∷ []) (sym is))
      ∙ around_more places (take d xs) s

  pub up_held : (row place : ℕ) → IsValidAt s row × StandsInside s row place → Holds (places_around places (take d xs)) row
      → Holds (places_around places (take depth xs)) place
  up_held row place stands held =
      subst (λ l. Holds l place) (sym one_up) (held_inside s (places_around places (take d xs)) row place held stands.0 stands.1)

  found_up : (place : ℕ) (o : Option ℕ)
      → ((row : ℕ) → row < s.length → IsValidAt s row → StandsInside s row place → o ≡ Some row)
      → Holds (places_around places (take depth xs)) place → (row : ℕ) × Holds (places_around places (take d xs)) row × (o ≡ Some row)
  found_up place o found held =
      let (row, at, valid, stands) = inside_held s (places_around places (take d xs)) place (subst (λ l. Holds l place) one_up held) in
      let below : row < s.length = below_held s.length (places_around places (take d xs)) row (steady_at places xs d s e all there is).0 at in
      (row, at, found row below valid stands)

  pub held_up : (row place : ℕ)
      → ((r : ℕ) → r < s.length → IsValidAt s r → StandsInside s r place → Some row ≡ Some r)
      → Holds (places_around places (take depth xs)) place → Holds (places_around places (take d xs)) row
  held_up row place found held =
      let (r, at, same) = found_up place (Some row) found held in
      subst (Holds (places_around places (take d xs))) (sym (some_same row r same)) at

  pub none_up : (place : ℕ) (o : Option ℕ) → o ≡ None
      → ((r : ℕ) → r < s.length → IsValidAt s r → StandsInside s r place → o ≡ Some r)
      → Holds (places_around places (take depth xs)) place → ⊥
  none_up place o none found held =
      let (r, at, same) = found_up place o found held in
      no r (sym none ∙ same)
    where
      no : (n : ℕ) → None ≡ Some n → ⊥
      no n e = cc

-- ---- the top

pub top_held : (rows : ℕ) (xs : List EncodedColumn) (depth place : ℕ) → depth ≡ 0 → place < rows → Holds (places_around (range_with_len 0 rows) (take depth xs)) place
top_held rows xs depth place none below =
    subst (λ n. Holds (places_around (range_with_len 0 rows) (take n xs)) place) (sym none) (at xs)
  where
    at : (ys : List EncodedColumn) → Holds (places_around (range_with_len 0 rows) (take 0 ys)) place
    at [] = held_range 0 rows place (omega arith) (omega arith)
    at (y ∷ ys) = held_range 0 rows place (omega arith) (omega arith)

pub held_top : (rows : ℕ) (xs : List EncodedColumn) (depth place : ℕ) → depth ≡ 0 → Holds (places_around (range_with_len 0 rows) (take depth xs)) place → place < rows
held_top rows xs depth place none held = at xs (subst (λ n. Holds (places_around (range_with_len 0 rows) (take n xs)) place) none held)
  where
    at : (ys : List EncodedColumn) → Holds (places_around (range_with_len 0 rows) (take 0 ys)) place → place < rows
    at [] h = let found = range_held 0 rows place h in omega (arith, found.1)
    at (y ∷ ys) h = let found = range_held 0 rows place h in omega (arith, found.1)

pub whole_held : (rows : ℕ) (xs : List EncodedColumn) → take (length xs) xs ≡ xs
whole_held rows [] = refl
whole_held rows (x ∷ xs) = ap (λ l. x ∷ l) (whole_held rows xs)

abbrev pub no_source : EncodedColumn
no_source = record {
  layout = Null;
  length = 0;
  nulls = pos 0;
  validity = record { ref_ptr = (0, 0); now = [] };
  offsets = record { ref_ptr = (0, 0); now = [] };
  values = record { ref_ptr = (0, 0); now = [] };
}
