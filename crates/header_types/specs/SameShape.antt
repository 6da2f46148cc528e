-- What two schemas have in common where they differ in metadata alone: Apache Arrow, "Schema.fbs", the tables `Schema`
-- and `Field` but for their `custom_metadata`.
use Rattle.std.specs.Prelude.{◌≡◌, []}
use Rattle.header_types.specs.Fields.{Tree, tree, Forest, no_more, more, SchemaTree}

-- the same fields, with no metadata at any level
abbrev mutual
  pub bare_tree : Tree → Tree
  bare_tree (tree field entries inner) = tree field [] (bare_forest inner)

  pub bare_forest : Forest → Forest
  bare_forest no_more = no_more
  bare_forest (more t rest) = more (bare_tree t) (bare_forest rest)

-- equal in all but metadata: names, nulls, types with their parameters, and the fields inside, in order
abbrev pub SameShape : SchemaTree → SchemaTree → Type 0
SameShape a b = bare_forest a.fields ≡ bare_forest b.fields
