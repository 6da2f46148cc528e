-- Fields without their metadata, one field at a time.
use Rattle.std.proofs.Common.{◌≡◌, ℕ, suc, ◌+◌, ◌<◌, List, [], map, drop, length, slice_index_or, refl, sym, ap, ◌∙◌}
use Rattle.header_types.specs.declared.schema.Field.{Field}
use Rattle.header_types.specs.Fields.{FieldHead, tree, Forest, no_more, more, width}
use Rattle.header_types.specs.Views.{tree_of, forest_of}
use Rattle.header_types.specs.SameShape.{bare_forest}
use Rattle.header_types.specs.FieldView.{field_head_of, fields_in, bare_fields}
use Rattle.header_types.proofs.FieldTrees.{width_forest_of}
use Rattle.header_types.proofs.FieldTrees.{forest_next}
use Rattle.std.proofs.lemmas.List.{length-map}

-- ---- the parts of a forest without metadata

abbrev first_field : Forest → FieldHead → FieldHead
first_field no_more c = c
first_field (more (tree field entries inner) rest) c = field

abbrev first_inner : Forest → Forest
first_inner no_more = no_more
first_inner (more (tree field entries inner) rest) = inner

abbrev behind : Forest → Forest
behind no_more = no_more
behind (more t rest) = rest

width_bare : (f : Forest) → width (bare_forest f) ≡ width f
width_bare no_more = refl
width_bare (more t rest) = ap suc (width_bare rest)

-- ---- the program's fields

-- a field without metadata, before others
abbrev before : FieldHead → Forest → Forest → Forest
before field inner rest = more (tree field [] inner) rest

pub bare_next : (fields : List Field) (i : ℕ) (x : Field) → i < length fields → x ≡ slice_index_or fields i x
    → bare_fields (drop i fields) ≡ before (field_head_of x) (bare_forest (fields_in x))
    (bare_fields (drop (i + 1) fields))
bare_next fields i x there is = ap bare_forest (forest_next fields i x there is)

pub same_length : (one other : List Field) → bare_fields one ≡ bare_fields other → length one ≡ length other
same_length one other same = sym (wide one) ∙ ap width same ∙ wide other where
  wide : (fields : List Field) → width (bare_fields fields) ≡ length fields
  wide fields = width_bare (forest_of (map tree_of fields)) ∙ width_forest_of (map tree_of fields)
      ∙ length-map fields tree_of

-- ---- two lists of fields at one place

-- the fields there and those behind are the same
pub all_same : (one other : List Field) (i : ℕ) (x y : Field) → i < length one → i < length other
    → x ≡ slice_index_or one i x → y ≡ slice_index_or other i y
    → field_head_of x ≡ field_head_of y → bare_forest (fields_in x) ≡ bare_forest (fields_in y)
    → bare_fields (drop (i + 1) one) ≡ bare_fields (drop (i + 1) other)
    → bare_fields (drop i one) ≡ bare_fields (drop i other)
all_same one other i x y p q seen met head inner rest =
    bare_next one i x p seen
    ∙ ap (λ c. before c (bare_forest (fields_in x)) (bare_fields (drop (i + 1) one))) head
    ∙ ap (λ f. before (field_head_of y) f (bare_fields (drop (i + 1) one))) inner
    ∙ ap (λ f. before (field_head_of y) (bare_forest (fields_in y)) f) rest
    ∙ sym (bare_next other i y q met)

seen_same : (one other : List Field) (i : ℕ) (x y : Field) → i < length one → i < length other
    → x ≡ slice_index_or one i x → y ≡ slice_index_or other i y
    → bare_fields (drop i one) ≡ bare_fields (drop i other)
    → before (field_head_of x) (bare_forest (fields_in x)) (bare_fields (drop (i + 1) one)) ≡ before (field_head_of y)
    (bare_forest (fields_in y)) (bare_fields (drop (i + 1) other))
seen_same one other i x y p q seen met same = sym (bare_next one i x p seen) ∙ same ∙ bare_next other i y q met

pub field_head_same : (one other : List Field) (i : ℕ) (x y : Field) → i < length one → i < length other
    → x ≡ slice_index_or one i x → y ≡ slice_index_or other i y
    → bare_fields (drop i one) ≡ bare_fields (drop i other) → field_head_of x ≡ field_head_of y
field_head_same one other i x y p q seen met same =
    ap (λ f. first_field f (field_head_of x)) (seen_same one other i x y p q seen met same)

pub inner_same : (one other : List Field) (i : ℕ) (x y : Field) → i < length one → i < length other
    → x ≡ slice_index_or one i x → y ≡ slice_index_or other i y
    → bare_fields (drop i one) ≡ bare_fields (drop i other) → bare_forest (fields_in x) ≡ bare_forest (fields_in y)
inner_same one other i x y p q seen met same = ap first_inner (seen_same one other i x y p q seen met same)

pub rest_same : (one other : List Field) (i : ℕ) (x y : Field) → i < length one → i < length other
    → x ≡ slice_index_or one i x → y ≡ slice_index_or other i y
    → bare_fields (drop i one) ≡ bare_fields (drop i other)
    → bare_fields (drop (i + 1) one) ≡ bare_fields (drop (i + 1) other)
rest_same one other i x y p q seen met same = ap behind (seen_same one other i x y p q seen met same)
