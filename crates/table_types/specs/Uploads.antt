-- What a client uploads, and the one way in which it is encoded. An upload is a message of numbered fields (Protocol
-- Buffers, "Encoding"), whose parts are the canonical header and bodies of Arrow's format: Apache Arrow, "Arrow Columnar
-- Format", "Encapsulated message format". The message itself, its names and its limits are this service's own.
use Rattle.std.specs.Prelude.{ℕ, List, map}
use Rattle.proto_fields.specs.Scalar.{TypeBytes}
use Rattle.proto_messages.specs.Descriptor.{Descriptor, NoMore, One, Messages, Values}
use Rattle.proto_messages.specs.Canonical.{canonical}
use Rattle.header_types.specs.Fields.{SchemaTree}
use Rattle.header_types.specs.Header.{schema_header, batch_header}
use Rattle.header_writing.specs.Canonical.{header_text}
use Rattle.batch_types.specs.Cells.{Rows}
use Rattle.batch_types.specs.Canonical.{canonical_head, canonical_body}

-- which table it is for, by name; its id, which its client chose; the schema of its batches; and these
pub record Upload : Type 0 where
  pub table : List ℕ
  pub id : List ℕ
  pub schema : SchemaTree
  pub batches : List Rows

-- ---- its encoding

-- header, body
abbrev pub batch_descriptor : Descriptor
batch_descriptor = One 1 TypeBytes (One 2 TypeBytes NoMore)

-- table, id, schema, batches
abbrev pub upload_descriptor : Descriptor
upload_descriptor = One 1 TypeBytes (One 2 TypeBytes (One 3 TypeBytes (Messages 4 batch_descriptor NoMore)))

abbrev pub schema_text : SchemaTree → List ℕ
schema_text schema = header_text (schema_header schema)

abbrev pub head_text : SchemaTree → Rows → List ℕ
head_text schema rows = header_text (batch_header (canonical_head schema rows))

abbrev pub batch_values : SchemaTree → Rows → Values batch_descriptor
batch_values schema rows = (head_text schema rows, (canonical_body schema rows, tt))

abbrev pub upload_values : Upload → Values upload_descriptor
upload_values upload =
    (upload.table, (upload.id, (schema_text upload.schema, (map (batch_values upload.schema) upload.batches, tt))))

abbrev pub upload_text : Upload → List ℕ
upload_text upload = canonical upload_descriptor (upload_values upload)
