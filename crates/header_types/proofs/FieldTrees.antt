-- Fields of the program as trees, one level or one field at a time.
use Rattle.std.proofs.Common.{◌≡◌, ℕ, suc, ◌+◌, ◌<◌, List, [], ◌∷◌, map, drop, length, slice_index_or, refl}
use Rattle.std.proofs.Common.{sym, ap, ◌∙◌}
use Rattle.std.proofs.lemmas.List.{at_drop_more, length-map}
use Rattle.header_types.specs.declared.schema.Field.{Field, out-Field, fold_out-Field}
use Rattle.header_types.specs.Fields.{Tree, tree, Forest, more, width}
use Rattle.header_types.specs.Views.{tree_step, tree_of, forest_of}
use Rattle.header_types.specs.FieldView.{field_head_of, entries_in, fields_in}

pub width_forest_of : (ts : List Tree) → width (forest_of ts) ≡ length ts
width_forest_of [] = refl
width_forest_of (t ∷ ts) = ap suc (width_forest_of ts)

pub tree_out : (x : Field) → tree_of x ≡ tree (field_head_of x) (entries_in x) (fields_in x)
tree_out = fold_out-Field Tree tree_step

abbrev forest_seen : List Field → Forest
forest_seen fields = forest_of (map tree_of fields)

-- the fields that are left begin with this one
pub forest_next : (fields : List Field) (i : ℕ) (x : Field) → i < length fields → x ≡ slice_index_or fields i x
    → forest_of (map tree_of (drop i fields)) ≡ more (tree (field_head_of x) (entries_in x) (fields_in x))
    (forest_of (map tree_of (drop (i + 1) fields)))
forest_next fields i x there is =
    at_drop_more forest_seen fields i x there
    ∙ ap (λ y. more (tree_of y) (forest_seen (drop (i + 1) fields))) (sym is)
    ∙ ap (λ t. more t (forest_seen (drop (i + 1) fields))) (tree_out x)

pub width_in : (x : Field) → width (fields_in x) ≡ length (out-Field x).children.items
width_in x = width_forest_of (map tree_of (out-Field x).children.items)
    ∙ length-map (out-Field x).children.items tree_of
