-- What a call is answered: Apache Arrow, "Flight.proto", `FlightInfo`, `SchemaResult`, `FlightData` and `PutResult`, and
-- "Arrow Flight RPC", "Downloading Data" and "Uploading Data". How many locations there are, and that a PutResult has the
-- upload's id and the version that it made, is this service's own.
use Rattle.std.specs.Prelude.{◌≡◌, ◌⊎◌, ℕ, ℤ, pos, negsuc, nat_lt, if◌then◌else◌, true, List, [], ◌∷◌, map, Some}
use Rattle.std.specs.List.{AllByRecursion}
use Rattle.proto_messages.specs.Descriptor.{Values}
use Rattle.proto_messages.specs.Canonical.{canonical}
use Rattle.proto_wire.specs.Flight.{info_descriptor, schema_result_descriptor, endpoint_descriptor}
use Rattle.header_types.specs.Fields.{SchemaTree}
use Rattle.header_writing.specs.Canonical.{encapsulated}
use Rattle.table_types.specs.Uploads.{Upload, upload_text, schema_text}
use Rattle.table_types.specs.Valid.{IsUpload, FitsFrame}
use Rattle.table_types.specs.Tables.{Version, Outcome, applied, mismatched, conflicting, unknown}
use Rattle.table_types.specs.Answers.{answer_messages}
use Rattle.table_types.specs.Ticket.{TableVersion, ticket_text}
use Rattle.call_protocol.specs.declared.back_fault.BackFault.{BackFault}
use Rattle.call_protocol.specs.declared.refusal.CallRefusal.{CallRefusal}
use Rattle.call_protocol.specs.declared.refusal.CallRefusal.TheVariants as refusals
use Rattle.call_protocol.specs.Statuses.{refusal_trailer}
use Rattle.call_protocol.specs.Names.{table_descriptor}
use Rattle.call_protocol.specs.Results.{put_result}
use Rattle.call_protocol.specs.Texts.{answer_text}
use Rattle.call_reading.specs.Requests.{Request, describes, shows, lists, serves, puts}

-- ---- what a backend may answer

-- the latest version of a table, and where it is served
pub record Description : Type 0 where
  pub version : TableVersion
  pub records : ℕ
  pub total_bytes : ℕ
  pub schema : SchemaTree
  pub locations : List (List ℕ)

pub data BackAnswer : Type 0 where
  described : Description → BackAnswer
  shown : SchemaTree → BackAnswer
  listed : List Description → BackAnswer
  served : Version → BackAnswer
  decided : Outcome → BackAnswer
  failed : BackFault → BackAnswer

-- ---- its messages

-- a number of 63 bits; "Set these to -1 if unknown" (`FlightInfo`) of a greater one
abbrev pub total_of : ℕ → ℤ
total_of n = if nat_lt n 9223372036854775808 then pos n else negsuc 0

-- the ticket of the version, and each location
abbrev pub endpoint_of : Description → Values endpoint_descriptor
endpoint_of d = (Some (ticket_text d.version, tt), (map (λ uri. (uri, tt)) d.locations, tt))

abbrev pub info_of : Description → Values info_descriptor
info_of d = (
  encapsulated (schema_text d.schema),
  (
    Some (table_descriptor d.version.table),
    (endpoint_of d ∷ [], (total_of d.records, (total_of d.total_bytes, (true, tt)))),
  ),
)

abbrev pub info_message : Description → List ℕ
info_message d = canonical info_descriptor (info_of d)

abbrev pub schema_result : SchemaTree → List ℕ
schema_result schema = canonical schema_result_descriptor (encapsulated (schema_text schema), tt)

-- ---- replies

-- these messages and that all went well, or why it did not
pub data Reply : Type 0 where
  answers : List (List ℕ) → Reply
  refuses : CallRefusal → Reply

abbrev pub reply_text : Reply → List ℕ
reply_text (answers messages) = answer_text messages
reply_text (refuses refusal) = refusal_trailer refusal

-- these messages, where a frame has room for each, and else that one is too long
abbrev pub RepliesBy : List (List ℕ) → Reply → Type 0
RepliesBy messages reply =
    (AllByRecursion FitsFrame messages × (reply ≡ answers messages))
    ⊎ ((¬ AllByRecursion FitsFrame messages) × (reply ≡ refuses refusals.TooLarge))

-- what is told of the upload with this encoding
abbrev pub RepliesOutcome : List ℕ → Outcome → Reply → Type 0
RepliesOutcome text (applied version) reply =
    (upload : Upload) × IsUpload upload × (upload_text upload ≡ text) × (reply ≡ answers (put_result upload.id version ∷ []))
RepliesOutcome text mismatched reply = reply ≡ refuses refusals.SchemaMismatch
RepliesOutcome text conflicting reply = reply ≡ refuses refusals.Conflict
RepliesOutcome text unknown reply = reply ≡ refuses refusals.Undecided

abbrev pub RepliesDescribed : BackAnswer → Reply → Type 0
RepliesDescribed (described d) reply = RepliesBy (info_message d ∷ []) reply
RepliesDescribed (failed fault) reply = reply ≡ refuses (refusals.Back fault)
RepliesDescribed other reply = ⊥

abbrev pub RepliesShown : BackAnswer → Reply → Type 0
RepliesShown (shown schema) reply = RepliesBy (schema_result schema ∷ []) reply
RepliesShown (failed fault) reply = reply ≡ refuses (refusals.Back fault)
RepliesShown other reply = ⊥

abbrev pub RepliesListed : BackAnswer → Reply → Type 0
RepliesListed (listed all) reply = RepliesBy (map info_message all) reply
RepliesListed (failed fault) reply = reply ≡ refuses (refusals.Back fault)
RepliesListed other reply = ⊥

abbrev pub RepliesServed : BackAnswer → Reply → Type 0
RepliesServed (served version) reply = reply ≡ answers (answer_messages version)
RepliesServed (failed fault) reply = reply ≡ refuses (refusals.Back fault)
RepliesServed other reply = ⊥

abbrev pub RepliesTold : List ℕ → BackAnswer → Reply → Type 0
RepliesTold text (decided outcome) reply = RepliesOutcome text outcome reply
RepliesTold text (failed fault) reply = reply ≡ refuses (refusals.Back fault)
RepliesTold text other reply = ⊥

-- the reply to a request that the backend answered so
abbrev pub Replies : Request → BackAnswer → Reply → Type 0
Replies (describes table) answer reply = RepliesDescribed answer reply
Replies (shows table) answer reply = RepliesShown answer reply
Replies lists answer reply = RepliesListed answer reply
Replies (serves asked) answer reply = RepliesServed answer reply
Replies (puts text) answer reply = RepliesTold text answer reply
