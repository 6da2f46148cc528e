-- Which headers are written, and how long their texts are.
use Rattle.std.specs.Prelude.{◌≡◌, ◌≤◌, ℕ, false, length}
use Rattle.header_types.specs.Header.{Header, schema_header, batch_header}
use Rattle.header_types.specs.Limits.{nodes_limit, buffers_limit}
use Rattle.header_types.specs.Profile.{InProfile}
use Rattle.header_writing.specs.Written.{FitsSchema, FitsHead}

-- no text that is written of a schema has more bytes
abbrev pub schema_text_limit : ℕ
schema_text_limit = 1310720

-- a schema in profile, or a batch that is not compressed, with no more nodes and buffers than 512 fields have; their
-- texts are UTF-8, and their numbers such of 32 and 64 bits
abbrev pub IsWritable : Header → Type 0
IsWritable (schema_header schema) = InProfile schema × FitsSchema schema
IsWritable (batch_header head) =
    (head.compressed ≡ false) × (length head.nodes ≤ nodes_limit) × (length head.buffers ≤ buffers_limit)
    × FitsHead head
