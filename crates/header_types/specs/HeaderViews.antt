-- What the program holds of a header, as the header of the definitions.
use Rattle.std.specs.Prelude.{◌≡◌, Result, Ok, Err}
use Rattle.header_types.specs.declared.fault.MetaFault.{MetaFault}
use Rattle.header_types.specs.declared.fault.MetaFault.TheVariants.{OutOfMemory}
use Rattle.header_types.specs.declared.header.BatchHead.{BatchHead}
use Rattle.header_types.specs.declared.header.Header.{Header as ReadHeader}
use Rattle.header_types.specs.declared.header.Header.TheVariants as read
use Rattle.header_types.specs.Views.{schema_of}
use Rattle.header_types.specs.Header.{Head, Header, schema_header, batch_header}

abbrev pub head_of : BatchHead → Head
head_of h = record {
  length = h.length;
  nodes = h.nodes.items;
  buffers = h.buffers.items;
  compressed = h.compressed;
  body_length = h.body_length;
}

abbrev pub header_of : ReadHeader → Header
header_of (read.Schema schema) = schema_header (schema_of schema)
header_of (read.Batch head) = batch_header (head_of head)

-- the header that was read is this one, unless memory was refused
abbrev pub IsUnlessRefused : Result ReadHeader MetaFault → Header → Type 0
IsUnlessRefused (Ok header) x = header_of header ≡ x
IsUnlessRefused (Err fault) x = fault ≡ OutOfMemory
