-- How far a vector of references is written: tools of the proofs.
use Rattle.std.specs.Prelude.{◌≡◌, ◌≤◌, ℕ, ◌+◌, ◌*◌, List, map, length, drop, String}
use Rattle.std.specs.List.{AllByRecursion}
use Rattle.std.specs.declared.alloc.Global.{Global}
use Rattle.header_types.specs.declared.schema.Field.{Field}
use Rattle.header_types.specs.Views.{entry_of, tree_of, forest_of}
use Rattle.header_writing.specs.Objects.{references_object}
use Rattle.header_writing.specs.Canonical.{entry_cells, field_cells}
use Rattle.header_writing.specs.Filling.{with_object, filled}
use Rattle.header_writing.specs.Written.{FitsEntry, FitsForest}

-- with the entries from i on written as well, the text is what it is to be
pub record EntriesLeft (old text : List ℕ) (from start i : ℕ)
    (entries : List (String Global × String Global)) : Type 0 where
  pub rest : filled text (start + 4 * i) (entry_cells (map entry_of (drop i entries))) ≡ with_object old from
      (references_object (entry_cells (map entry_of entries)))
  pub room : start + 4 * length entries ≤ length text
  pub fit : AllByRecursion FitsEntry (map entry_of (drop i entries)) → AllByRecursion FitsEntry (map entry_of entries)

-- the same of fields
pub record FieldsLeft (old text : List ℕ) (from start i : ℕ) (fields : List Field) : Type 0 where
  pub rest : filled text (start + 4 * i) (field_cells (forest_of (map tree_of (drop i fields)))) ≡ with_object old from
      (references_object (field_cells (forest_of (map tree_of fields))))
  pub room : start + 4 * length fields ≤ length text
  pub fit : FitsForest (forest_of (map tree_of (drop i fields))) → FitsForest (forest_of (map tree_of fields))
