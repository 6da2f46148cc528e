-- What a call asks for: Apache Arrow, "Flight.proto", service `FlightService`, and "Arrow Flight RPC", "RPC Methods and
-- Request Patterns". Whatever order its bytes are read in, a call is a path, messages, and an end.
use Rattle.std.specs.Prelude.{◌≡◌, ◌≤◌, ◌⊎◌, ℕ, List, [], ◌∷◌, ◌++◌, length, Some}
use Rattle.std.specs.List.{AllByRecursion}
use Rattle.proto_messages.specs.Descriptor.{Values, IsMessage}
use Rattle.proto_wire.specs.Flight.{flight_descriptor_descriptor, ticket_descriptor, criteria_descriptor, data_descriptor}
use Rattle.header_types.specs.Fields.{SchemaTree}
use Rattle.header_types.specs.Header.{Head, schema_header, batch_header, ShowsHeader}
use Rattle.batch_types.specs.Cells.{Rows}
use Rattle.batch_types.specs.LaysOut.{LaysOut}
use Rattle.table_types.specs.Uploads.{Upload, upload_text}
use Rattle.table_types.specs.Valid.{FitsFrame, IsUpload}
use Rattle.table_types.specs.Ticket.{TableVersion, IsTicket}
use Rattle.call_protocol.specs.declared.method.Method.{Method}
use Rattle.call_protocol.specs.declared.method.Method.TheVariants as methods
use Rattle.call_protocol.specs.Methods.{path_text}
use Rattle.call_protocol.specs.Names.{Descriptor, NamesTable, NamesUpload}
use Rattle.call_protocol.specs.Texts.{call_text}

-- ---- what is asked

pub data Request : Type 0 where
  -- what is told of the table of this name
  describes : List ℕ → Request
  -- the schema of the table of this name
  shows : List ℕ → Request
  -- what is told of each table
  lists : Request
  -- the batches of a version of a table
  serves : TableVersion → Request
  -- to take the upload of this encoding
  puts : List ℕ → Request

-- ---- the message of a call that has one

-- the message is a descriptor of this table
pub record AsksForTable (message table : List ℕ) : Type 0 where
  pub descriptor : Descriptor
  pub means : IsMessage flight_descriptor_descriptor message descriptor
  pub names : NamesTable descriptor table

-- the message is criteria that leave out no flight
abbrev pub AsksForAll : List ℕ → Type 0
AsksForAll message = IsMessage criteria_descriptor message ([], tt)

-- the message is a ticket for this version
pub record AsksForVersion (message : List ℕ) (asked : TableVersion) : Type 0 where
  pub ticket : List ℕ
  pub means : IsMessage ticket_descriptor message (ticket, tt)
  pub is_ticket : IsTicket ticket asked

-- the call has one message, of which this holds
abbrev pub HasOne : (List ℕ → Type 0) → List (List ℕ) → Type 0
HasOne P messages = (message : List ℕ) × (messages ≡ message ∷ []) × P message

-- ---- the messages of an upload

abbrev pub Data : Type 0
Data = Values data_descriptor

abbrev pub header_in : Data → List ℕ
header_in data_values = data_values.1.0

abbrev pub body_in : Data → List ℕ
body_in data_values = data_values.1.1.1.0

-- the first message has the table's name, the upload's id, and the schema
pub record Opens (message table id : List ℕ) (schema : SchemaTree) : Type 0 where
  pub values : Data
  pub means : IsMessage data_descriptor message values
  pub descriptor : Descriptor
  pub descriptor_is : values.0 ≡ Some descriptor
  pub names : NamesUpload descriptor table id
  pub shows_schema : ShowsHeader (header_in values) (schema_header schema)

-- a message without header and body is passed over, whatever else it has
abbrev pub IsBlank : List ℕ → List ℕ → Type 0
IsBlank header body = (header ≡ []) × (body ≡ [])

-- a header and a body that lay out these rows
pub record HasBatch (schema : SchemaTree) (header body : List ℕ) (rows : Rows) : Type 0 where
  pub head : Head
  pub shows_head : ShowsHeader header (batch_header head)
  pub lays_out : LaysOut schema head body rows

-- what a message behind the first adds to the batches: nothing, or one
pub record Adds (schema : SchemaTree) (message : List ℕ) (batches : List Rows) : Type 0 where
  pub values : Data
  pub means : IsMessage data_descriptor message values
  pub adds : (IsBlank (header_in values) (body_in values) × (batches ≡ []))
      ⊎ ((rows : Rows) × HasBatch schema (header_in values) (body_in values) rows × (batches ≡ rows ∷ []))

-- what the messages behind the first add, one after the other
abbrev pub AddAll : SchemaTree → List (List ℕ) → List Rows → Type 0
AddAll schema [] batches = batches ≡ []
AddAll schema (message ∷ messages) batches =
    (first rest : List Rows) × Adds schema message first × AddAll schema messages rest × (batches ≡ first ++ rest)

-- the messages so far bring the upload so far
pub record Brings (messages : List (List ℕ)) (upload : Upload) : Type 0 where
  pub first : List ℕ
  pub others : List (List ℕ)
  pub messages_are : messages ≡ first ∷ others
  pub opens : Opens first upload.table upload.id upload.schema
  pub adds : AddAll upload.schema others upload.batches

-- they bring an upload that is taken, which has this encoding
abbrev pub BringsUpload : List (List ℕ) → List ℕ → Type 0
BringsUpload messages text = (upload : Upload) × Brings messages upload × IsUpload upload × (text ≡ upload_text upload)

-- ---- the call

-- the method by which it is asked for
abbrev pub method_of : Request → Method
method_of (describes table) = methods.GetFlightInfo
method_of (shows table) = methods.GetSchema
method_of lists = methods.ListFlights
method_of (serves asked) = methods.DoGet
method_of (puts text) = methods.DoPut

abbrev pub MessagesMean : Request → List (List ℕ) → Type 0
MessagesMean (describes table) messages = HasOne (λ message. AsksForTable message table) messages
MessagesMean (shows table) messages = HasOne (λ message. AsksForTable message table) messages
MessagesMean lists messages = HasOne AsksForAll messages
MessagesMean (serves asked) messages = HasOne (λ message. AsksForVersion message asked) messages
MessagesMean (puts text) messages = BringsUpload messages text

-- the most messages of a call, by a limit of 65,536 frames before its end that is this service's own
abbrev pub messages_limit : ℕ
messages_limit = 65535

-- the text begins with a call that asks for this, and this is left behind it
pub record IsCall (text : List ℕ) (request : Request) (rest : List ℕ) : Type 0 where
  pub messages : List (List ℕ)
  pub parts : text ≡ call_text (path_text (method_of request)) messages ++ rest
  pub fit : AllByRecursion FitsFrame messages
  pub few : length messages ≤ messages_limit
  pub mean : MessagesMean request messages
