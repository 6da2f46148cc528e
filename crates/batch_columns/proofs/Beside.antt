-- Columns beside fields, one at a time.
use Rattle.std.proofs.Common.{◌≡◌, ℕ, zero, suc, ◌+◌, ◌<◌, ◌≤◌, List, [], ◌∷◌, drop, length, slice_index_or, refl, sym, ap, ap₂, ◌∙◌, subst, arith}
use Rattle.std.proofs.lemmas.List.{at_drop_more}
use Rattle.header_types.specs.declared.schema.Field.{Field}
use Rattle.header_types.specs.FieldView.{field_head_of, fields_in}
use Rattle.header_types.proofs.FieldTrees.{forest_next}
use Rattle.batch_types.specs.Layouts.{Layout, null_layout, bits_layout, bytes_layout, binary_layout, utf8_layout, layout_of}
use Rattle.batch_types.specs.Layouts.{list_layout, fixed_size_list_layout, struct_layout}
use Rattle.batch_types.specs.Shapes.{Shape, shape, Shapes, no_shape, shape_then, shapes_of}
use Rattle.batch_columns.specs.Contents.{Contents, layout_of_shape, shapes_of_shape, layout_in, shapes_in}
use Rattle.batch_columns.specs.Held.{layout_named, shapes_held, height, heights}
use Rattle.batch_columns.specs.FieldShapes.{field_shapes}
use Rattle.batch_columns.specs.declared.layout.Layout.{Layout as Declared}
use Rattle.batch_columns.specs.declared.layout.Layout.TheVariants.{Null, Bits, Bytes, Binary, Utf8, List as Lists, FixedSizeList, Struct}

-- ---- layouts have one name

abbrev name_of : Layout → Declared
name_of null_layout = Null
name_of bits_layout = Bits
name_of (bytes_layout size) = Bytes size
name_of (binary_layout offset) = Binary
name_of (utf8_layout offset) = Utf8
name_of (list_layout offset) = Lists
name_of (fixed_size_list_layout size) = FixedSizeList size
name_of struct_layout = Struct

named_back : (layout : Declared) → name_of (layout_named layout) ≡ layout
named_back Null = refl
named_back Bits = refl
named_back (Bytes size) = refl
named_back Binary = refl
named_back Utf8 = refl
named_back Lists = refl
named_back (FixedSizeList size) = refl
named_back Struct = refl

pub one_name : (x y : Declared) → layout_named x ≡ layout_named y → x ≡ y
one_name x y same = sym (named_back x) ∙ ap name_of same ∙ named_back y

-- ---- shapes, one at a time

abbrev pub first_of : Shapes → Shape → Shape
first_of no_shape s = s
first_of (shape_then s rest) other = s

abbrev pub behind : Shapes → Shapes
behind no_shape = no_shape
behind (shape_then s rest) = rest

abbrev count_shapes : Shapes → ℕ
count_shapes no_shape = 0
count_shapes (shape_then s rest) = suc (count_shapes rest)

pub whole_shape : (s : Shape) → s ≡ shape (layout_of_shape s) (shapes_of_shape s)
whole_shape (shape layout inside) = refl

-- the shape of a field
abbrev shape_in : Field → Shape
shape_in field = shape (layout_of (field_head_of field).data_type) (shapes_of (fields_in field))

fields_next : (fields : List Field) (i : ℕ) (x : Field) → i < length fields → x ≡ slice_index_or fields i x
    → field_shapes (drop i fields) ≡ shape_then (shape_in x) (field_shapes (drop (i + 1) fields))
fields_next fields i x there is = ap shapes_of (forest_next fields i x there is)

pub columns_next : (columns : List Contents) (i : ℕ) (x : Contents) → i < length columns → x ≡ slice_index_or columns i x
    → shapes_held (drop i columns) ≡ shape_then x.shape (shapes_held (drop (i + 1) columns))
columns_next columns i x there is =
    at_drop_more shapes_held columns i x there ∙ ap (λ y. shape_then y.shape (shapes_held (drop (i + 1) columns))) (sym is)

count_fields : (fields : List Field) → count_shapes (field_shapes fields) ≡ length fields
count_fields [] = refl
count_fields (field ∷ fields) = ap suc (count_fields fields)

count_columns : (columns : List Contents) → count_shapes (shapes_held columns) ≡ length columns
count_columns [] = refl
count_columns (column ∷ columns) = ap suc (count_columns columns)

pub same_length : (columns : List Contents) (fields : List Field) → shapes_held columns ≡ field_shapes fields → length columns ≡ length fields
same_length columns fields same = sym (count_columns columns) ∙ ap count_shapes same ∙ count_fields fields

-- ---- a column and a field at one place

module _ (columns : List Contents) (fields : List Field) (i : ℕ) (x : Contents) (y : Field) (p : i < length columns) (q : i < length fields)
    (seen : x ≡ slice_index_or columns i x) (met : y ≡ slice_index_or fields i y) where
  -- those at this place and those behind are the same
  pub all_same : layout_in x ≡ layout_of (field_head_of y).data_type → shapes_in x ≡ shapes_of (fields_in y)
      → shapes_held (drop (i + 1) columns) ≡ field_shapes (drop (i + 1) fields) → shapes_held (drop i columns) ≡ field_shapes (drop i fields)
  all_same layouts inside rest =
      columns_next columns i x p seen ∙ ap₂ shape_then (whole_shape x.shape ∙ ap₂ shape layouts inside) rest ∙ sym (fields_next fields i y q met)

  both_seen : shapes_held (drop i columns) ≡ field_shapes (drop i fields)
      → shape_then x.shape (shapes_held (drop (i + 1) columns)) ≡ shape_then (shape_in y) (field_shapes (drop (i + 1) fields))
  both_seen same = sym (columns_next columns i x p seen) ∙ same ∙ fields_next fields i y q met

  pub layout_same : shapes_held (drop i columns) ≡ field_shapes (drop i fields) → layout_in x ≡ layout_of (field_head_of y).data_type
  layout_same same = ap (λ s. layout_of_shape (first_of s x.shape)) (both_seen same)

  pub inside_same : shapes_held (drop i columns) ≡ field_shapes (drop i fields) → shapes_in x ≡ shapes_of (fields_in y)
  inside_same same = ap (λ s. shapes_of_shape (first_of s x.shape)) (both_seen same)

  pub rest_same : shapes_held (drop i columns) ≡ field_shapes (drop i fields) → shapes_held (drop (i + 1) columns) ≡ field_shapes (drop (i + 1) fields)
  rest_same same = ap behind (both_seen same)

-- ---- what is inside a column is less deep

height_there : (columns : List Contents) (i : ℕ) (x : Contents) → i < length columns → x ≡ slice_index_or columns i x
    → height x.shape ≤ heights (shapes_held columns)
height_there [] i x there is = absurd (omega arith)
height_there (column ∷ columns) zero x there is =
    subst (λ c. height c.shape ≤ heights (shapes_held (column ∷ columns))) (sym is) (omega arith)
height_there (column ∷ columns) (suc i) x there is =
    omega (arith, height_there columns i x (omega arith) is)

height_whole : (s : Shape) → height s ≡ suc (heights (shapes_of_shape s))
height_whole (shape layout inside) = refl

pub falls : (columns : List Contents) (i : ℕ) (x : Contents) (inside : List Contents) → i < length columns → x ≡ slice_index_or columns i x
    → shapes_held inside ≡ shapes_in x → heights (shapes_held inside) < heights (shapes_held columns)
falls columns i x inside there is same =
    omega (arith, height_there columns i x there is, height_whole x.shape, ap heights same)
