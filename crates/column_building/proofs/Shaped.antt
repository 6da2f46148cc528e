-- Fields by their shapes, one at a time.
use Rattle.std.proofs.Common.{◌≡◌, ℕ, zero, suc, ◌+◌, ◌<◌, ◌≤◌, ◌&&◌, Bool, List, [], ◌∷◌, drop, length, slice_index_or, refl, sym, ap, ap₂, ◌∙◌, subst, arith}
use Rattle.std.proofs.lemmas.List.{at_drop_more}
use Rattle.header_types.specs.declared.schema.Field.{Field}
use Rattle.batch_types.specs.Layouts.{Layout}
use Rattle.batch_types.specs.Canonical.{blank_of, blanks_of, nth_or}
use Rattle.batch_types.specs.Shapes.{Shape, shape, Shapes, shape_then}
use Rattle.batch_columns.specs.Contents.{layout_of_shape, shapes_of_shape}
use Rattle.batch_columns.specs.FieldShapes.{field_shapes}
use Rattle.batch_columns.specs.Held.{height, heights}
use Rattle.column_building.specs.Whole.{field_shape, count_shapes, allows, is_whole, are_whole}

pub whole_shape : (s : Shape) → s ≡ shape (layout_of_shape s) (shapes_of_shape s)
whole_shape (shape layout inside) = refl

-- a shape is its layout around the shapes inside it
pub made_of : (s : Shape) (layout : Layout) (inside : Shapes) → layout ≡ layout_of_shape s → inside ≡ shapes_of_shape s → shape layout inside ≡ s
made_of s layout inside named shapes = ap₂ shape named shapes ∙ sym (whole_shape s)

module _ {X : Type 0} where
  -- the members that are left begin with this one
  pub dropped : (xs : List X) (i : ℕ) (x : X) → i < length xs → x ≡ slice_index_or xs i x → drop i xs ≡ x ∷ drop (i + 1) xs
  dropped xs i x there is = at_drop_more (λ l. l) xs i x there ∙ ap (λ y. y ∷ drop (i + 1) xs) (sym is)

pub fields_next : (fields : List Field) (i : ℕ) (x : Field) → i < length fields → x ≡ slice_index_or fields i x
    → field_shapes (drop i fields) ≡ shape_then (field_shape x) (field_shapes (drop (i + 1) fields))
fields_next fields i x there is = ap field_shapes (dropped fields i x there is)

pub count_fields : (fields : List Field) → count_shapes (field_shapes fields) ≡ length fields
count_fields [] = refl
count_fields (field ∷ fields) = ap suc (count_fields fields)

-- ---- what is inside is less deep

height_whole : (s : Shape) → height s ≡ suc (heights (shapes_of_shape s))
height_whole (shape layout inside) = refl

pub height_there : (fields : List Field) (i : ℕ) (x : Field) → i < length fields → x ≡ slice_index_or fields i x
    → height (field_shape x) ≤ heights (field_shapes fields)
height_there [] i x there is = absurd (omega arith)
height_there (field ∷ fields) zero x there is =
    subst (λ f. height (field_shape f) ≤ heights (field_shapes (field ∷ fields))) (sym is) (omega arith)
height_there (field ∷ fields) (suc i) x there is =
    omega (arith, height_there fields i x (omega arith) is)

-- ---- as many inside as the layout allows

whole_opens : (s : Shape) → is_whole s ≡ allows (layout_of_shape s) (count_shapes (shapes_of_shape s)) && are_whole (shapes_of_shape s)
whole_opens (shape layout inside) = refl

pub whole_of : (s : Shape) (layout : Layout) (inside : List Field) (allowed : Bool) → layout ≡ layout_of_shape s
    → field_shapes inside ≡ shapes_of_shape s → allowed ≡ allows layout (length inside) → is_whole s ≡ allowed && are_whole (field_shapes inside)
whole_of s layout inside allowed named shapes is =
    whole_opens s
    ∙ ap₂ ◌&&◌ (ap₂ allows (sym named) (ap count_shapes (sym shapes) ∙ count_fields inside) ∙ sym is) (ap are_whole (sym shapes))

pub whole_next : (fields : List Field) (i : ℕ) (x : Field) → i < length fields → x ≡ slice_index_or fields i x
    → are_whole (field_shapes (drop i fields)) ≡ is_whole (field_shape x) && are_whole (field_shapes (drop (i + 1) fields))
whole_next fields i x there is = ap are_whole (fields_next fields i x there is)

-- ---- the blank cell of a field

pub nth_blank : (fields : List Field) (i : ℕ) (x : Field) → i < length fields → x ≡ slice_index_or fields i x
    → nth_or (blank_of (field_shape x)) (blanks_of (field_shapes fields)) i ≡ blank_of (field_shape x)
nth_blank [] i x there is = absurd (omega arith)
nth_blank (field ∷ fields) zero x there is = ap (λ f. blank_of (field_shape f)) (sym is)
nth_blank (field ∷ fields) (suc i) x there is = nth_blank fields i x (omega arith) is
