-- What the messages of a request mean.
use Rattle.std.proofs.Common.{◌≡◌, refl, ℕ, ◌≤◌, List, [], ◌∷◌, map, length, None, Some, inr, arith, rules}
use Rattle.std.specs.List.{AllByRecursion}
use Rattle.std.specs.Int.{w32}
use Rattle.std.specs.Int.RustNames.{FitsSigned}
use Rattle.proto_messages.specs.Descriptor.{Descriptor as MessageType, Values, IsMessage}
use Rattle.proto_messages.specs.Canonical.{canonical, RisesFrom, Fits}
use Rattle.proto_wire.specs.Flight.{flight_descriptor_descriptor, ticket_descriptor, data_descriptor, path_type}
use Rattle.header_types.specs.Fields.{SchemaTree}
use Rattle.header_types.specs.Header.{Header, schema_header, batch_header, ShowsHeader}
use Rattle.header_types.specs.Profile.{InProfile}
use Rattle.header_writing.specs.Canonical.{header_text}
use Rattle.flatbuf_meta.specs.Writable.{IsWritable}
use Rattle.batch_types.specs.Cells.{Rows}
use Rattle.batch_types.specs.Canonical.{canonical_head, canonical_body}
use Rattle.batch_types.specs.LaysOut.{LaysOut}
use Rattle.batch_types.specs.Written.{CanBeWritten}
use Rattle.table_types.specs.Uploads.{Upload, schema_text, head_text}
use Rattle.table_types.specs.Served.{data_text}
use Rattle.table_types.specs.Valid.{FitsFrame, IsTableName, IsUpload, upload_limit}
use Rattle.table_types.specs.Ticket.{TableVersion, IsTableVersion, ticket_text, IsTicket}
use Rattle.uploads.specs.Parts.{batch_parts, served_of}
use Rattle.uploads.proofs.CallerLemmas.{message_long, parts_fit}
use Rattle.call_protocol.specs.Names.{id_text, table_descriptor, upload_descriptor}
use Rattle.call_reading.specs.Requests.{Data, AsksForTable, AsksForVersion, Opens, Adds, AddAll, Brings}
use Rattle.client_calls.specs.Requests.{table_message, ticket_message, opening_message, further_message, put_messages}
use Rattle.request_laws.proofs.Names.{table_is_text, digits_are_text}
use Rattle.request_laws.proofs.Sizes.{names_short, ticket_short, bare_short}

-- ---- the types of messages

descriptor_rises : RisesFrom 0 flight_descriptor_descriptor
descriptor_rises = (omega arith, (omega arith, omega arith), (omega arith, (omega arith, omega arith), (omega arith, (omega arith, omega arith), tt)))

ticket_rises : RisesFrom 0 ticket_descriptor
ticket_rises = (omega arith, (omega arith, omega arith), tt)

data_rises : RisesFrom 0 data_descriptor
data_rises = (
  omega arith,
  (omega arith, omega arith),
  descriptor_rises,
  (
    omega arith,
    (omega arith, omega arith),
    (omega arith, (omega arith, omega arith), (omega arith, (omega arith, omega arith), tt)),
  ),
)

path_fits : FitsSigned w32 path_type
path_fits = search rules

table_fits : (table : List ℕ) → IsTableName table → Fits flight_descriptor_descriptor (table_descriptor table)
table_fits table named = (path_fits, (omega arith, (((table_is_text table named, omega (arith, named.short)), tt), tt)))

names_fit : (table id : List ℕ) → IsTableName table → length (id_text id) ≡ 32 → Fits flight_descriptor_descriptor (upload_descriptor table id)
names_fit table id named digits = (
  path_fits,
  (
    omega arith,
    (
      (
        (table_is_text table named, omega (arith, named.short)),
        ((digits_are_text id, omega (arith, digits)), tt),
      ),
      tt,
    ),
  ),
)

abbrev data_values : List ℕ → List ℕ → Data
data_values header body = (None, (header, ([], (body, tt))))

data_fits : (header body : List ℕ) → FitsFrame (data_text header [] body) → Fits data_descriptor (data_values header body)
data_fits header body fits =
    let long = message_long header [] body in
    (tt, (omega (arith, long.0, fits), (omega arith, (omega (arith, long.2, fits), tt))))

abbrev opening_values : Upload → Data
opening_values upload = (Some (upload_descriptor upload.table upload.id), (schema_text upload.schema, ([], ([], tt))))

opening_fits : (upload : Upload) → IsUpload upload → length (id_text upload.id) ≡ 32 → Fits data_descriptor (opening_values upload)
opening_fits upload is digits =
    let long = message_long (schema_text upload.schema) [] [] in (
      (
        (
          names_fit upload.table upload.id is.table_named digits,
          omega (arith, names_short upload.table (id_text upload.id), is.table_named.short, digits),
        ),
        tt,
      ),
      (omega (arith, long.0, is.schema_served), (omega arith, (omega arith, tt))),
    )

module _ (written : (type : MessageType) (v : Values type) → RisesFrom 0 type → Fits type v → IsMessage type (canonical type v) v) where
  -- ---- one message

  pub asks_for_table : (table : List ℕ) → IsTableName table → AsksForTable (table_message table) table
  asks_for_table table named = record {
    descriptor = table_descriptor table;
    means = written flight_descriptor_descriptor (table_descriptor table) descriptor_rises (table_fits table named);
    names = record { is_path = record { type_is = refl; path_is = refl }; named = named };
  }

  pub asks_for_version : (asked : TableVersion) → IsTableVersion asked → IsTicket (ticket_text asked) asked → AsksForVersion (ticket_message asked) asked
  asks_for_version asked is ticket = record {
    ticket = ticket_text asked;
    means = written ticket_descriptor (ticket_text asked, tt) ticket_rises (omega (arith, ticket_short asked, is.named.short), tt);
    is_ticket = ticket;
  }

  -- ---- those of an upload

  module _ (shown : (header : Header) → IsWritable header → ShowsHeader (header_text header) header) where
    opens : (upload : Upload) → IsUpload upload → length (id_text upload.id) ≡ 32 → Opens (opening_message upload) upload.table upload.id upload.schema
    opens upload is digits = record {
      values = opening_values upload;
      means = written data_descriptor (opening_values upload) data_rises (opening_fits upload is digits);
      descriptor = upload_descriptor upload.table upload.id;
      descriptor_is = refl;
      names = record { is_path = record { type_is = refl; path_is = refl }; named = is.table_named; id_named = is.named };
      shows_schema = shown (schema_header upload.schema) (is.profile, is.schema_fits);
    }

    module _ (writable : (schema : SchemaTree) (rows : Rows) → InProfile schema → CanBeWritten schema rows
        → length (canonical_body schema rows) ≤ upload_limit → IsWritable (batch_header (canonical_head schema rows)))
        (laid : (schema : SchemaTree) (rows : Rows) → InProfile schema → CanBeWritten schema rows
        → LaysOut schema (canonical_head schema rows) (canonical_body schema rows) rows) where
      batch_adds : (schema : SchemaTree) (rows : Rows) → InProfile schema → CanBeWritten schema rows → FitsFrame (further_message schema rows)
          → Adds schema (further_message schema rows) (rows ∷ [])
      batch_adds schema rows profile can fits =
          let long = message_long (head_text schema rows) [] (canonical_body schema rows) in
          record {
            values = data_values (head_text schema rows) (canonical_body schema rows);
            means =
                written data_descriptor (data_values (head_text schema rows) (canonical_body schema rows)) data_rises
                (data_fits (head_text schema rows) (canonical_body schema rows) fits);
            adds = inr (
              rows,
              record {
                head = canonical_head schema rows;
                shows_head = shown (batch_header (canonical_head schema rows)) (writable schema rows profile can (omega (arith, long.2, fits)));
                lays_out = laid schema rows profile can;
              },
              refl,
            );
          }

      all_add : (schema : SchemaTree) (batches : List Rows) → InProfile schema → AllByRecursion (CanBeWritten schema) batches
          → AllByRecursion FitsFrame (map (further_message schema) batches) → AddAll schema (map (further_message schema) batches) batches
      all_add schema [] profile can fit = refl
      all_add schema (rows ∷ batches) profile can fit = (
        rows ∷ [],
        batches,
        batch_adds schema rows profile can.0 fit.0,
        all_add schema batches profile can.1 fit.1,
        refl,
      )

      pub brings : (upload : Upload) → IsUpload upload → length (id_text upload.id) ≡ 32
          → AllByRecursion FitsFrame (map (further_message upload.schema) upload.batches) → Brings (put_messages upload) upload
      brings upload is digits fit = record {
        first = opening_message upload;
        others = map (further_message upload.schema) upload.batches;
        messages_are = refl;
        opens = opens upload is digits;
        adds = all_add upload.schema upload.batches is.profile is.batches_written fit;
      }

-- ---- room

bare_fit : (schema : SchemaTree) (id : List ℕ) (batches : List Rows) → AllByRecursion (λ parts. FitsFrame (served_of id parts)) (map (batch_parts schema) batches)
    → AllByRecursion FitsFrame (map (further_message schema) batches)
bare_fit schema id [] fit = tt
bare_fit schema id (rows ∷ batches) fit = (
  omega (arith, bare_short (head_text schema rows) id (canonical_body schema rows), fit.0),
  bare_fit schema id batches fit.1,
)

-- a frame has room for the message of each batch
pub batches_fit : (upload : Upload) → IsUpload upload → AllByRecursion FitsFrame (map (further_message upload.schema) upload.batches)
batches_fit upload is = bare_fit upload.schema upload.id upload.batches (parts_fit upload is.batches_served)
