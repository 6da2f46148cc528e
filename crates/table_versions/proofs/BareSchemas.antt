-- A schema that can be written can be written without its metadata.
use Rattle.std.proofs.Common.{◌≡◌, refl, sym, ap, ap₂, subst, ℕ, suc, ◌+◌, ◌≤◌, max, List, [], length, arith}
use Rattle.header_types.specs.Fields.{Entry, FieldHead, Tree, tree, Forest, no_more, more, width, SchemaTree}
use Rattle.header_types.specs.Header.{schema_header}
use Rattle.header_types.specs.Limits.{tree_sum, forest_sum, tree_depth, forest_depth, field_bytes, entry_bytes}
use Rattle.header_types.specs.Profile.{IsWellFormedTree, IsWellFormedForest, InProfile}
use Rattle.header_types.specs.SameShape.{bare_tree, bare_forest, SameShape}
use Rattle.header_types.specs.TypeIds.{AllowsChildren}
use Rattle.header_writing.specs.Written.{FitsTree, FitsForest, FitsSchema}
use Rattle.flatbuf_meta.specs.Writable.{IsWritable}
use Rattle.table_types.specs.Uploads.{Upload}
use Rattle.table_types.specs.Valid.{IsUpload}
use Rattle.table_types.specs.Tables.{bare_schema, shape_text}

bare_width : (f : Forest) → width (bare_forest f) ≡ width f
bare_width no_more = refl
bare_width (more t rest) = ap suc (bare_width rest)

mutual
  tree_depth_same : (t : Tree) → tree_depth (bare_tree t) ≡ tree_depth t
  tree_depth_same (tree field entries inner) = ap suc (forest_depth_same inner)

  forest_depth_same : (f : Forest) → forest_depth (bare_forest f) ≡ forest_depth f
  forest_depth_same no_more = refl
  forest_depth_same (more t rest) = ap₂ max (tree_depth_same t) (forest_depth_same rest)

mutual
  tree_well : (t : Tree) → IsWellFormedTree t → IsWellFormedTree (bare_tree t)
  tree_well (tree field entries inner) well = (
    subst (AllowsChildren field.data_type) (sym (bare_width inner)) well.0,
    well.1,
    forest_well inner well.2,
  )

  forest_well : (f : Forest) → IsWellFormedForest f → IsWellFormedForest (bare_forest f)
  forest_well no_more well = tt
  forest_well (more t rest) well = (tree_well t well.0, forest_well rest well.1)

mutual
  tree_fits : (t : Tree) → FitsTree t → FitsTree (bare_tree t)
  tree_fits (tree field entries inner) fits = (fits.0, fits.1, tt, forest_fits inner fits.3)

  forest_fits : (f : Forest) → FitsForest f → FitsForest (bare_forest f)
  forest_fits no_more fits = tt
  forest_fits (more t rest) fits = (tree_fits t fits.0, forest_fits rest fits.1)

module _ (weight : FieldHead → List Entry → ℕ) (least : (field : FieldHead) (entries : List Entry) → weight field [] ≤ weight field entries) where
  mutual
    tree_lighter : (t : Tree) → tree_sum weight (bare_tree t) ≤ tree_sum weight t
    tree_lighter (tree field entries inner) = omega (arith, least field entries, forest_lighter inner)

    forest_lighter : (f : Forest) → forest_sum weight (bare_forest f) ≤ forest_sum weight f
    forest_lighter no_more = omega arith
    forest_lighter (more t rest) = omega (arith, tree_lighter t, forest_lighter rest)

pub bare_profile : (s : SchemaTree) → InProfile s → InProfile (bare_schema s)
bare_profile s is = record {
  not_deep = omega (arith, is.not_deep, forest_depth_same s.fields);
  within = record {
    fields_within = omega (arith, is.within.fields_within, forest_lighter (λ field entries. 1) (λ field entries. omega arith) s.fields);
    entries_within =
        omega (arith, is.within.entries_within, forest_lighter (λ field entries. length entries) (λ field entries. omega arith) s.fields);
    bytes_within =
        omega (
          arith,
          is.within.bytes_within,
          forest_lighter (λ field entries. field_bytes field + entry_bytes entries) (λ field entries. omega arith) s.fields,
        );
  };
  well_formed = forest_well s.fields is.well_formed;
}

bare_fits : (s : SchemaTree) → FitsSchema s → FitsSchema (bare_schema s)
bare_fits s fits = record { fields = forest_fits s.fields fits.fields; metadata = tt }

pub bare_writable : (u : Upload) → IsUpload u → IsWritable (schema_header (bare_schema u.schema))
bare_writable u valid = (bare_profile u.schema valid.profile, bare_fits u.schema valid.schema_fits)

-- schemas without metadata that are written alike are one
abbrev pub ShapesApart : Type 0
ShapesApart = (x y : Upload) → IsWritable (schema_header (bare_schema x.schema)) → IsWritable (schema_header (bare_schema y.schema))
    → shape_text x ≡ shape_text y → SameShape x.schema y.schema
