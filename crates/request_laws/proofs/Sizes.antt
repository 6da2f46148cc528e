-- How long the messages of a request are, at most.
use Rattle.std.proofs.Common.{◌≡◌, refl, ℕ, ◌+◌, ◌*◌, ◌≤◌, Bool, true, false, not, cond, List, [], ◌∷◌, ◌++◌, map, length, Some, ap, length-append, arith}
use Rattle.std.specs.Int.{w64, cast_unsigned}
use Rattle.proto_fields.specs.Varint.{varint_text}
use Rattle.proto_fields.specs.Field.{Field, Varint, is_default, field_text, fields_text, present}
use Rattle.proto_messages.specs.Canonical.{bytes_field, canonical}
use Rattle.proto_wire.specs.Flight.{flight_descriptor_descriptor, data_descriptor, path_type}
use Rattle.flatbuf_meta.specs.Writable.{schema_text_limit}
use Rattle.table_types.specs.Uploads.{Upload, schema_text}
use Rattle.table_types.specs.Served.{data_text}
use Rattle.table_types.specs.Valid.{FitsFrame, IsTableName, IsUpload}
use Rattle.table_types.specs.Ticket.{TableVersion, IsTableVersion, ticket_text}
use Rattle.uploads.proofs.CallerLemmas.{part, varint_is, digits_few, part_few, both_fields, no_field, message_size}
use Rattle.call_protocol.specs.Names.{id_text}
use Rattle.client_calls.specs.Requests.{table_message, ticket_message, opening_message}

-- ---- fields

abbrev number_field : ℕ → ℕ → Field
number_field number n = record { number = number; held = Varint n }

number_short : (number n : ℕ) → length (field_text (number_field number n)) ≤ 20
number_short number n =
    omega (
      arith,
      length-append (varint_text (8 * number + 0)) (varint_text n),
      ap length (varint_is (8 * number + 0)),
      ap length (varint_is n),
      digits_few 10 (8 * number + 0),
      digits_few 10 n,
    )

kept_short : (f : Field) (n : ℕ) (b : Bool) → length (field_text f) ≤ n → length (fields_text (cond (not b) (f ∷ []) [])) ≤ n
kept_short f n true few = omega arith
kept_short f n false few = omega (arith, length-append (field_text f) [], few)

number_few : (number n : ℕ) → length (fields_text (present (number_field number n ∷ []))) ≤ 20
number_few number n = kept_short (number_field number n) 20 (is_default (number_field number n).held) (number_short number n)

bytes_few : (number : ℕ) (bytes : List ℕ) → length (fields_text (present (bytes_field number bytes ∷ []))) ≤ 20 + length bytes
bytes_few number bytes =
    kept_short (bytes_field number bytes) (20 + length bytes) (is_default (bytes_field number bytes).held) (part_few number bytes)

-- ---- descriptors

path_long : (path : List (List ℕ)) → length (canonical flight_descriptor_descriptor (path_type, ([], (path, tt)))) ≤ 20 + length (fields_text (map (bytes_field 3) path ++ []))
path_long path =
    let type : Field = number_field 1 (cast_unsigned w64 path_type) in
    let whole : length (canonical flight_descriptor_descriptor (path_type, ([], (path, tt)))) ≡ length (fields_text (present (type ∷ []))) + length (fields_text (map (bytes_field 3) path ++ [])) =
    both_fields (present (type ∷ [])) (map (bytes_field 3) path ++ []) in
    omega (arith, whole, number_few 1 (cast_unsigned w64 path_type))

one_element : (table : List ℕ) → length (fields_text (map (bytes_field 3) (table ∷ []) ++ [])) ≤ 20 + length table
one_element table = omega (arith, length-append (part 3 table) [], part_few 3 table)

two_elements : (table id : List ℕ) → length (fields_text (map (bytes_field 3) (table ∷ id ∷ []) ++ [])) ≤ 40 + length table + length id
two_elements table id =
    omega (
      arith,
      length-append (part 3 table) (part 3 id ++ []),
      length-append (part 3 id) [],
      part_few 3 table,
      part_few 3 id,
    )

pub names_short : (table id : List ℕ) → length (canonical flight_descriptor_descriptor (path_type, ([], (table ∷ id ∷ [], tt)))) ≤ 60 + length table + length id
names_short table id = omega (arith, path_long (table ∷ id ∷ []), two_elements table id)

pub table_message_fits : (table : List ℕ) → IsTableName table → FitsFrame (table_message table)
table_message_fits table named = omega (arith, path_long (table ∷ []), one_element table, named.short)

-- ---- tickets

pub ticket_short : (asked : TableVersion) → length (ticket_text asked) ≤ 40 + length asked.table
ticket_short asked =
    let table : List Field = present (bytes_field 1 asked.table ∷ []) in
    let version : List Field = present (number_field 2 asked.version ∷ []) in
    let whole : length (ticket_text asked) ≡ length (fields_text table) + length (fields_text (version ++ [])) =
    both_fields table (version ++ []) in
    omega (arith, whole, both_fields version [], bytes_few 1 asked.table, number_few 2 asked.version)

pub ticket_message_fits : (asked : TableVersion) → IsTableVersion asked → FitsFrame (ticket_message asked)
ticket_message_fits asked is =
    let ticket : List Field = present (bytes_field 1 (ticket_text asked) ∷ []) in
    let whole : length (ticket_message asked) ≡ length (fields_text ticket) + 0 = both_fields ticket [] in
    omega (arith, whole, bytes_few 1 (ticket_text asked), ticket_short asked, is.named.short)

-- ---- uploads

-- a descriptor, and a header without metadata and body
opening_short : (table id header : List ℕ)
    → length (canonical data_descriptor (Some (path_type, ([], (table ∷ id ∷ [], tt))), (header, ([], ([], tt)))))
    ≤ 100 + length table + length id + length header
opening_short table id header =
    let descriptor : List ℕ = canonical flight_descriptor_descriptor (path_type, ([], (table ∷ id ∷ [], tt))) in
    let first : List Field = bytes_field 1 descriptor ∷ [] in
    let others : List Field = present (bytes_field 2 header ∷ []) ++ [] in
    let whole : length (fields_text (first ++ others)) ≡ length (fields_text first) + length (fields_text others) =
    both_fields first others in
    omega (
      arith,
      whole,
      both_fields (present (bytes_field 2 header ∷ [])) [],
      length-append (part 1 descriptor) [],
      part_few 1 descriptor,
      bytes_few 2 header,
      names_short table id,
    )

-- the first message of an upload, whose schema is not longer than schemas are
pub opening_fits_frame : (upload : Upload) → IsUpload upload → length (id_text upload.id) ≡ 32
    → length (schema_text upload.schema) ≤ schema_text_limit → FitsFrame (opening_message upload)
opening_fits_frame upload is digits short =
    omega (
      arith,
      opening_short upload.table (id_text upload.id) (schema_text upload.schema),
      is.table_named.short,
      digits,
      short,
    )

-- ---- batches

-- a message without metadata is no longer than one that has some
pub bare_short : (header metadata body : List ℕ) → length (data_text header [] body) ≤ length (data_text header metadata body)
bare_short header metadata body =
    omega (arith, message_size header [] body, message_size header metadata body, no_field 3 [] refl)
