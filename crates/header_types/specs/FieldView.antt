-- What the program says of one field, level by level: a tool of the proofs.
use Rattle.std.specs.Prelude.{List, map, string_bytes}
use Rattle.header_types.specs.declared.schema.Field.{Field, out-Field}
use Rattle.header_types.specs.Fields.{Entry, FieldHead, Tree, tree, Forest, no_more}
use Rattle.header_types.specs.Views.{data_type_of, entry_of, tree_of, forest_of}
use Rattle.header_types.specs.SameShape.{bare_forest}

-- the field, but for its metadata and those inside it
abbrev pub field_head_of : Field → FieldHead
field_head_of field =
    record {
      name = string_bytes (out-Field field).name;
      nullable = (out-Field field).nullable;
      data_type =
          data_type_of (out-Field field).ty;
    }

-- its metadata
abbrev pub entries_in : Field → List Entry
entries_in field = map entry_of (out-Field field).metadata.items

-- the fields inside it
abbrev pub fields_in : Field → Forest
fields_in field = forest_of (map tree_of (out-Field field).children.items)

-- the field with its metadata alone
abbrev pub own_tree : Field → Tree
own_tree field = tree (field_head_of field) (entries_in field) no_more

-- these fields, with no metadata at any level
abbrev pub bare_fields : List Field → Forest
bare_fields fields = bare_forest (forest_of (map tree_of fields))
