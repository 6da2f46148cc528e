-- Schemas without their metadata.
use Rattle.std.proofs.Common.{◌≡◌, ap, [], ◌∙◌, List, ℕ}
use Rattle.header_types.specs.Fields.{Forest, no_more, SchemaTree}
use Rattle.header_types.specs.Header.{Header, schema_header, batch_header}
use Rattle.header_types.specs.SameShape.{SameShape}
use Rattle.header_writing.specs.Canonical.{header_text}
use Rattle.flatbuf_meta.specs.Writable.{IsWritable}
use Rattle.table_types.specs.Uploads.{Upload, schema_text}
use Rattle.table_types.specs.Tables.{bare_schema, shape_text}

pub one_shape : (x y : Upload) → SameShape x.schema y.schema → shape_text x ≡ shape_text y
one_shape x y same = ap (λ f. let s : SchemaTree = record { fields = f; metadata = [] } in schema_text s) same

abbrev fields_in : Header → Forest
fields_in (schema_header schema) = schema.fields
fields_in (batch_header head) = no_more

module _ (law : (x y : Header) → IsWritable x → IsWritable y → header_text x ≡ header_text y → x ≡ y) where
  pub no_more_apart : (x y : Upload) → IsWritable (schema_header (bare_schema x.schema)) → IsWritable (schema_header (bare_schema y.schema))
      → shape_text x ≡ shape_text y → SameShape x.schema y.schema
  no_more_apart x y fits other same =
      ap fields_in (law (schema_header (bare_schema x.schema)) (schema_header (bare_schema y.schema)) fits other same)
