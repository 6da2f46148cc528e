-- Columns that are alike, and whose columns inside are equal, are equal.
use Rattle.std.proofs.Common.{◌≡◌, refl, sym, ap, ap₂, subst, ◌∙◌, ℕ, suc, ◌+◌, ◌<◌, Bool, List, [], ◌∷◌, map, drop, length, get_or, replicate, slice_index_or, ◌↔◌, IsTrue}
use Rattle.std.proofs.lemmas.List.{at_drop_more}
use Rattle.std.specs.List.{AllByRecursion, flat_map}
use Rattle.batch_types.specs.Cells.{Cell}
use Rattle.batch_types.specs.Layouts.{Layout, null_layout, bits_layout, bytes_layout, binary_layout, utf8_layout}
use Rattle.batch_types.specs.Layouts.{list_layout, fixed_size_list_layout, struct_layout}
use Rattle.batch_types.specs.Canonical.{own_buffers, blank_of, elements_or, field_or, nulls_of}
use Rattle.batch_types.specs.Shapes.{Shape, shape}
use Rattle.batch_types.specs.Typed.{IsCellOf}
use Rattle.batch_types.specs.Written.{HasRoom}
use Rattle.batch_columns.specs.Buffers.{offsets_among, values_among}
use Rattle.batch_columns.specs.Contents.{Contents, layout_in, shapes_in}
use Rattle.batch_columns.specs.Held.{shapes_held}
use Rattle.batch_columns.specs.Kept.{HasElements, HaveFields, HaveInside, IsKept}
use Rattle.batch_columns.specs.Alike.{AreAlike}
use Rattle.batch_columns.specs.Same.{same_contents, equal, same, either_way}
use Rattle.batch_columns.specs.SameBatches.{same_batches, batches_equal, batches_same}
use Rattle.batch_columns.specs.declared.batch.Batch.{Batch}
use Rattle.batch_columns.proofs.Holding.{ReadsBack, kept_cells}
use Rattle.batch_columns.proofs.Beside.{first_of, behind, whole_shape}

abbrev both : Shape → List Cell → Contents
both s c = record { shape = s; cells = c }

one_contents : (x y : Contents) → x.shape ≡ y.shape → x.cells ≡ y.cells → x ≡ y
one_contents x y shapes cells = ap₂ both shapes cells

-- ---- alike, and the same inside

-- the cells fit the layout and the columns inside
record Stand (layout : Layout) (inside : List Contents) (cells : List Cell) : Type 0 where
  fit : AllByRecursion (IsCellOf (shape layout (shapes_held inside))) cells
  held_inside : HaveInside layout cells inside
  room : HasRoom layout cells

stand : (x : Contents) (inside : List Contents) → shapes_held inside ≡ shapes_in x → HaveInside (layout_in x) x.cells inside
    → AllByRecursion (IsCellOf x.shape) x.cells → HasRoom (layout_in x) x.cells → Stand (layout_in x) inside x.cells
stand x inside same has fit room = record {
  fit = subst (λ s. AllByRecursion (IsCellOf s) x.cells) (whole_shape x.shape ∙ ap (shape (layout_in x)) (sym same)) fit;
  held_inside = has;
  room = room;
}

module _ (law : ReadsBack) where
  one_cells : (layout : Layout) (inside : List Contents) (xs ys : List Cell) → Stand layout inside xs → Stand layout inside ys → length xs ≡ length ys
      → get_or (own_buffers layout xs) 0 [] ≡ get_or (own_buffers layout ys) 0 []
      → offsets_among layout (own_buffers layout xs) ≡ offsets_among layout (own_buffers layout ys)
      → values_among layout (own_buffers layout xs) ≡ values_among layout (own_buffers layout ys) → xs ≡ ys
  one_cells layout inside xs ys left right counts validity offsets values =
      let mine : IsKept layout xs (nulls_of xs) (get_or (own_buffers layout xs) 0 []) (offsets_among layout (own_buffers layout xs)) (values_among layout (own_buffers layout xs)) inside = record {
        nulls_counted = refl;
        validity_kept = refl;
        offsets_kept = refl;
        values_kept = refl;
        fit = left.fit;
        held_inside = left.held_inside;
        room = left.room;
      } in
      let theirs : IsKept layout ys (nulls_of ys) (get_or (own_buffers layout xs) 0 []) (offsets_among layout (own_buffers layout xs)) (values_among layout (own_buffers layout xs)) inside = record {
        nulls_counted = refl;
        validity_kept = validity;
        offsets_kept = offsets;
        values_kept = values;
        fit = right.fit;
        held_inside = right.held_inside;
        room = right.room;
      } in
      sym (kept_cells law layout xs inside (nulls_of xs) (get_or (own_buffers layout xs) 0 []) (offsets_among layout (own_buffers layout xs)) (values_among layout (own_buffers layout xs)) mine (length xs) refl)
      ∙ kept_cells law layout ys inside (nulls_of ys) (get_or (own_buffers layout xs) 0 []) (offsets_among layout (own_buffers layout xs)) (values_among layout (own_buffers layout xs)) theirs (length xs) (sym counts)

  pub alike_equal : (x y : Contents) → AllByRecursion (IsCellOf x.shape) x.cells → HasRoom (layout_in x) x.cells
      → AllByRecursion (IsCellOf y.shape) y.cells → HasRoom (layout_in y) y.cells → AreAlike x y → (inside : List Contents)
      → shapes_held inside ≡ shapes_in x → HaveInside (layout_in x) x.cells inside
      → shapes_held inside ≡ shapes_in y → HaveInside (layout_in y) y.cells inside → x ≡ y
  alike_equal x y xfit xroom yfit yroom alike inside xsame xhas ysame yhas =
      let mine : Stand (layout_in x) inside x.cells = stand x inside xsame xhas xfit xroom in
      let theirs : Stand (layout_in x) inside y.cells =
      subst (λ l. Stand l inside y.cells) (sym alike.layouts) (stand y inside ysame yhas yfit yroom) in
      one_contents x y
      (whole_shape x.shape ∙ ap₂ shape alike.layouts (sym xsame ∙ ysame) ∙ sym (whole_shape y.shape))
      (one_cells (layout_in x) inside x.cells y.cells mine theirs alike.counts
      (alike.validity ∙ ap (λ l. get_or (own_buffers l y.cells) 0 []) (sym alike.layouts))
      (alike.offsets ∙ ap (λ l. offsets_among l (own_buffers l y.cells)) (sym alike.layouts))
      (alike.values ∙ ap (λ l. values_among l (own_buffers l y.cells)) (sym alike.layouts)))

-- ---- equal columns are alike, and so are those inside them

pub equal_alike : (x y : Contents) → x ≡ y → AreAlike x y
equal_alike x y same = subst (λ z. AreAlike x z) same (record { layouts = refl; counts = refl; validity = refl; offsets = refl; values = refl })

elements_one : (n : ℕ) (cells : List Cell) (a b : List Contents) → shapes_held a ≡ shapes_held b → HasElements n cells a → HasElements n cells b → a ≡ b
elements_one n cells [] b same none has = absurd none
elements_one n cells (x ∷ xs) [] same has none = absurd none
elements_one n cells (x ∷ xs) (y ∷ ys) same left right =
    let shapes : x.shape ≡ y.shape = ap (λ s. first_of s x.shape) same in
    ap₂ (λ c cs. c ∷ cs)
    (one_contents x y shapes (left.0 ∙ ap (λ s. flat_map (elements_or (replicate n (blank_of s))) cells) shapes ∙ sym right.0))
    (left.1 ∙ sym right.1)

fields_one : (k : ℕ) (cells : List Cell) (a b : List Contents) → shapes_held a ≡ shapes_held b → HaveFields k cells a → HaveFields k cells b → a ≡ b
fields_one k cells [] [] same left right = refl
fields_one k cells [] (y ∷ ys) same left right = cc
fields_one k cells (x ∷ xs) [] same left right = cc
fields_one k cells (x ∷ xs) (y ∷ ys) same left right =
    let shapes : x.shape ≡ y.shape = ap (λ s. first_of s x.shape) same in
    ap₂ (λ c cs. c ∷ cs)
    (one_contents x y shapes (left.0 ∙ ap (λ s. map (field_or (blank_of s) k) cells) shapes ∙ sym right.0))
    (fields_one (suc k) cells xs ys (ap behind same) left.1 right.1)

inside_one : (layout : Layout) (cells : List Cell) (a b : List Contents) → shapes_held a ≡ shapes_held b → HaveInside layout cells a → HaveInside layout cells b → a ≡ b
inside_one null_layout cells a b same left right = left ∙ sym right
inside_one bits_layout cells a b same left right = left ∙ sym right
inside_one (bytes_layout size) cells a b same left right = left ∙ sym right
inside_one (binary_layout offset) cells a b same left right = left ∙ sym right
inside_one (utf8_layout offset) cells a b same left right = left ∙ sym right
inside_one (list_layout offset) cells a b same left right = elements_one 0 cells a b same left right
inside_one (fixed_size_list_layout size) cells a b same left right = elements_one size cells a b same left right
inside_one struct_layout cells a b same left right = fields_one 0 cells a b same left right

pub equal_inside : (x y : Contents) (a b : List Contents) → shapes_held a ≡ shapes_in x → HaveInside (layout_in x) x.cells a
    → shapes_held b ≡ shapes_in y → HaveInside (layout_in y) y.cells b → x ≡ y → a ≡ b
equal_inside x y a b ashapes ahas bshapes bhas same =
    inside_one (layout_in x) x.cells a b (ashapes ∙ ap shapes_in same ∙ sym bshapes) ahas
    (subst (λ z. HaveInside (layout_in z) z.cells b) (sym same) bhas)

-- alike columns are equal where one list of columns stands inside both
pub equal_by_inside : (x y : Contents) (a b : List Contents) → ((inside : List Contents) → shapes_held inside ≡ shapes_in x
    → HaveInside (layout_in x) x.cells inside → shapes_held inside ≡ shapes_in y → HaveInside (layout_in y) y.cells inside → x ≡ y)
    → shapes_held a ≡ shapes_in x → HaveInside (layout_in x) x.cells a
    → shapes_held b ≡ shapes_in y → HaveInside (layout_in y) y.cells b → a ≡ b → x ≡ y
equal_by_inside x y a b where_one ashapes ahas bshapes bhas same =
    where_one a ashapes ahas (subst (λ l. shapes_held l ≡ shapes_in y) (sym same) bshapes)
    (subst (λ l. HaveInside (layout_in y) y.cells l) (sym same) bhas)

-- ---- one at a time

abbrev head_or : Contents → List Contents → Contents
head_or c [] = c
head_or c (x ∷ xs) = x

abbrev tail_of : List Contents → List Contents
tail_of [] = []
tail_of (x ∷ xs) = xs

module _ (left right : List Contents) (i : ℕ) (x y : Contents) (p : i < length left) (q : i < length right)
    (seen : x ≡ slice_index_or left i x) (met : y ≡ slice_index_or right i y) where
  next_left : drop i left ≡ x ∷ drop (i + 1) left
  next_left = at_drop_more (λ l. l) left i x p ∙ ap (λ z. z ∷ drop (i + 1) left) (sym seen)

  next_right : drop i right ≡ y ∷ drop (i + 1) right
  next_right = at_drop_more (λ l. l) right i y q ∙ ap (λ z. z ∷ drop (i + 1) right) (sym met)

  pub here_and_behind : x ≡ y → drop (i + 1) left ≡ drop (i + 1) right → drop i left ≡ drop i right
  here_and_behind here behind_it = next_left ∙ ap₂ (λ c cs. c ∷ cs) here behind_it ∙ sym next_right

  pub equal_here : drop i left ≡ drop i right → x ≡ y
  equal_here is = ap (head_or x) (sym next_left ∙ is ∙ next_right)

  pub equal_behind : drop i left ≡ drop i right → drop (i + 1) left ≡ drop (i + 1) right
  equal_behind is = ap tail_of (sym next_left ∙ is ∙ next_right)

-- ---- as a test

pub test_is_same : (x y : Contents) (result : Bool) → (IsTrue result ↔ (x ≡ y)) → result ≡ same_contents x y
test_is_same x y result told =
    either_way result (same_contents x y) (λ is. same x y (told.0 is)) (λ is. told.1 (equal x y is))

pub test_is_same_batches : (x y : Batch) (xs ys : List Contents) (result : Bool) → x.rows ≡ y.rows → xs ≡ x.columns.items → ys ≡ y.columns.items
    → (IsTrue result ↔ (xs ≡ ys)) → result ≡ same_batches x y
test_is_same_batches x y xs ys result rows left right told =
    either_way result (same_batches x y)
    (λ is. batches_same x y (record { rows = rows; columns = sym left ∙ told.0 is ∙ right }))
    (λ is. told.1 (left ∙ (batches_equal x y is).columns ∙ sym right))
