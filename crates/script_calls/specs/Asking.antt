-- What the calls of a script ask, and what a service tells them: Apache Arrow, "Flight.proto", `DoPut`, `DoGet` and `GetFlightInfo`.
-- What a script's line has of an answer is this service's own.
use Rattle.std.specs.Prelude.{◌≡◌, ℕ, List, Result, Ok, Err}
use Rattle.proto_messages.specs.Descriptor.{Values}
use Rattle.proto_wire.specs.Flight.{info_descriptor}
use Rattle.table_types.specs.Uploads.{Upload, upload_text}
use Rattle.table_types.specs.Valid.{IsUpload}
use Rattle.table_types.specs.Ticket.{TableVersion}
use Rattle.run_files.specs.declared.script.CallRequest.{CallRequest}
use Rattle.run_files.specs.declared.script.CallRequest.TheVariants as asked
use Rattle.client_calls.specs.declared.client_fault.ClientFault.{ClientFault}
use Rattle.client_calls.specs.declared.client_fault.ClientFault.TheVariants as faults
use Rattle.client_calls.specs.Requests.{put_request, get_request, info_request}
use Rattle.client_calls.specs.Results.{GivesVersion, HasVersion, GivesFrames, HasFrames, MeansInfo}
use Rattle.script_calls.specs.declared.told.Told.{Told}
use Rattle.script_calls.specs.declared.told.Told.TheVariants as told
use Rattle.script_calls.specs.declared.told.Unanswered.{Unanswered}
use Rattle.script_calls.specs.declared.told.Unanswered.TheVariants as unanswered
use Rattle.script_calls.specs.Informing.{IsServedAt}

-- ---- what is asked

-- that an upload is taken, for a version of a table, or what is told of a table
pub data RequestMeaning : Type 0 where
  puts : Upload → RequestMeaning
  gets : TableVersion → RequestMeaning
  informs : List ℕ → RequestMeaning

-- the call of a script asks this; an upload is known by its encoding
abbrev pub IsAsked : CallRequest → RequestMeaning → Type 0
IsAsked (asked.Put text) (puts upload) = IsUpload upload × (upload_text upload ≡ text)
IsAsked (asked.Get ticket) (gets version) = version ≡ ticket
IsAsked (asked.Info text) (informs table) = table ≡ text
IsAsked (asked.Put text) (gets version) = ⊥
IsAsked (asked.Put text) (informs table) = ⊥
IsAsked (asked.Get ticket) (puts upload) = ⊥
IsAsked (asked.Get ticket) (informs table) = ⊥
IsAsked (asked.Info text) (puts upload) = ⊥
IsAsked (asked.Info text) (gets version) = ⊥

-- what a client writes
abbrev pub request_of : RequestMeaning → List ℕ
request_of (puts upload) = put_request upload
request_of (gets version) = get_request version
request_of (informs table) = info_request table

-- ---- what is told

-- there is one message, which means that this version of the table is its latest one, and served at so many locations
pub record TellsInfo (table : List ℕ) (messages : List (List ℕ)) (version locations : ℕ) : Type 0 where
  pub values : Values info_descriptor
  pub means : MeansInfo messages values
  pub served : IsServedAt table version locations values

-- the messages of an answer tell this of what was asked
abbrev pub Tells : RequestMeaning → List (List ℕ) → Told → Type 0
Tells (puts upload) messages (told.Put version) = GivesVersion upload.id messages version
Tells (gets version) messages (told.Get frames) = GivesFrames messages frames
Tells (informs table) messages (told.Info version locations) = TellsInfo table messages version locations
Tells (puts upload) messages (told.Get frames) = ⊥
Tells (puts upload) messages (told.Info version locations) = ⊥
Tells (puts upload) messages (told.Status code words) = ⊥
Tells (gets version) messages (told.Put number) = ⊥
Tells (gets version) messages (told.Info number locations) = ⊥
Tells (gets version) messages (told.Status code words) = ⊥
Tells (informs table) messages (told.Put version) = ⊥
Tells (informs table) messages (told.Get frames) = ⊥
Tells (informs table) messages (told.Status code words) = ⊥

-- they tell something of it
abbrev pub CanTell : RequestMeaning → List (List ℕ) → Type 0
CanTell (puts upload) messages = HasVersion upload.id messages
CanTell (gets version) messages = HasFrames messages
CanTell (informs table) messages = (version locations : ℕ) × TellsInfo table messages version locations

-- What a client received by what it was told: a status is told of a refusal alone.
abbrev pub as_received : Result Told Unanswered → Result Told ClientFault
as_received (Ok (told.Put version)) = Ok (told.Put version)
as_received (Ok (told.Get frames)) = Ok (told.Get frames)
as_received (Ok (told.Info version locations)) = Ok (told.Info version locations)
as_received (Ok (told.Status code words)) = Err (faults.Status code words)
as_received (Err unanswered.BadAnswer) = Err faults.BadAnswer
as_received (Err (unanswered.Call fault)) = Err (faults.Call fault)

-- It was asked for a version, and the service is unavailable (gRPC, "Status codes and their use in gRPC": 14).
abbrev pub IsAskedAgain : CallRequest → Told → Type 0
IsAskedAgain (asked.Get ticket) (told.Status code words) = code ≡ 14
IsAskedAgain (asked.Get ticket) (told.Put version) = ⊥
IsAskedAgain (asked.Get ticket) (told.Get frames) = ⊥
IsAskedAgain (asked.Get ticket) (told.Info version locations) = ⊥
IsAskedAgain (asked.Put text) answer = ⊥
IsAskedAgain (asked.Info text) answer = ⊥
