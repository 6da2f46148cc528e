-- What the parts of reading a call give: tools of the contracts of private functions. What a call is stands in `Requests`,
-- and what is wrong with a text in `Faults`.
use Rattle.std.specs.Prelude.{String, ◌≡◌, ◌≢◌, ◌≤◌, ◌⊎◌, ℕ, List, [], ◌++◌, length, string_bytes, Vec, Result, Ok, Err}
use Rattle.std.specs.List.{AllByRecursion}
use Rattle.std.specs.declared.alloc.Global.{Global}
use Rattle.grpc_frames.specs.Frame.{Frame}
use Rattle.proto_wire.specs.Flight.{flight_descriptor_descriptor, ticket_descriptor, criteria_descriptor}
use Rattle.table_types.specs.Ticket.{TableVersion}
use Rattle.table_types.specs.Served.{in_frame}
use Rattle.table_types.specs.Valid.{FitsFrame}
use Rattle.call_protocol.specs.declared.method.Method.{Method}
use Rattle.call_protocol.specs.declared.refusal.CallRefusal.{CallRefusal}
use Rattle.call_protocol.specs.declared.refusal.CallRefusal.TheVariants as refusals
use Rattle.call_protocol.specs.Methods.{path_text}
use Rattle.call_protocol.specs.Names.{TableFault}
use Rattle.call_protocol.specs.Texts.{messages_text, end_text}
use Rattle.call_reading.specs.declared.frames.CallPart.{CallPart}
use Rattle.call_reading.specs.declared.frames.CallPart.TheVariants as parts
use Rattle.call_reading.specs.declared.request.FlightRequest.{FlightRequest}
use Rattle.call_reading.specs.declared.request.FlightRequest.TheVariants as asks
use Rattle.call_reading.specs.Requests.{AsksForTable, AsksForAll, AsksForVersion, Request, describes, shows, lists, serves, puts, method_of, MessagesMean, messages_limit, IsCall}
use Rattle.call_reading.specs.Faults.{MeansAtFault, CriteriaFault, TicketFault, FrameBreaks, PathBreaks, BreaksMessages, RefusalStands}

-- ---- frames

-- the next frame has a message, or is the end; or none can be read
abbrev pub ReadsPart : Result CallPart CallRefusal → List ℕ → List ℕ → Type 0
ReadsPart (Ok (parts.Message message)) here after = FitsFrame message.items × (here ≡ in_frame message.items ++ after)
ReadsPart (Ok parts.End) here after = here ≡ end_text ++ after
ReadsPart (Err refusal) here after = FrameBreaks here after refusal

-- ---- a method that asks for one message

-- there was one message, and the next frame is no end
abbrev pub EndBreaks : List ℕ → List ℕ → CallRefusal → Type 0
EndBreaks mid after refusal =
    FrameBreaks mid after refusal
    ⊎ ((second : List ℕ) × (mid ≡ in_frame second ++ after) × FitsFrame second × (refusal ≡ refusals.MessageCount))

-- Why the messages of a method that asks for one message, such as P, are at fault where this is left behind the path.
abbrev pub OneBreaks : (List ℕ → Type 0) → (List ℕ → CallRefusal → Type 0) → List ℕ → List ℕ → CallRefusal → Type 0
OneBreaks P IsAtFault here after refusal =
    FrameBreaks here after refusal
    ⊎ ((here ≡ end_text ++ after) × (refusal ≡ refusals.MessageCount))
    ⊎ ((message : List ℕ) × (here ≡ in_frame message ++ after) × FitsFrame message
    × (IsAtFault message refusal ⊎ (P message × (refusal ≡ refusals.OutOfMemory))))
    ⊎ ((message mid : List ℕ) × (here ≡ in_frame message ++ mid) × FitsFrame message × P message × EndBreaks mid after refusal)

-- what a frame says
abbrev pub PartIn : Frame → Result CallPart CallRefusal → Type 0
PartIn frame (Ok (parts.Message message)) = (frame.flag ≢ 128) × (message.items ≡ frame.payload)
PartIn frame (Ok parts.End) = frame ≡ record { flag = 128; payload = [] }
PartIn frame (Err refusal) = (frame.flag ≡ 128) × (frame.payload ≢ []) × (refusal ≡ refusals.EndPayload)

-- the end follows, or it does not
abbrev pub ReadsEnd : Result (Unit {0}) CallRefusal → List ℕ → List ℕ → Type 0
ReadsEnd (Ok done) mid after = mid ≡ end_text ++ after
ReadsEnd (Err refusal) mid after = EndBreaks mid after refusal

-- the first message, or there is none
abbrev pub ReadsFirst : Result (Vec ℕ Global) CallRefusal → List ℕ → List ℕ → Type 0
ReadsFirst (Ok message) here mid = FitsFrame message.items × (here ≡ in_frame message.items ++ mid)
ReadsFirst (Err refusal) here mid =
    FrameBreaks here mid refusal ⊎ ((here ≡ end_text ++ mid) × (refusal ≡ refusals.MessageCount))

-- what reading the messages of such a method gives: all of it, or why it breaks
abbrev pub ReadsOne : {T : Type 0} → (List ℕ → T → Type 0) → (List ℕ → Type 0) → (List ℕ → CallRefusal → Type 0) → Result T CallRefusal → List ℕ → List ℕ → Type 0
ReadsOne Q P IsAtFault (Ok read) here after =
    (message : List ℕ) × (here ≡ in_frame message ++ (end_text ++ after)) × FitsFrame message × Q message read
ReadsOne Q P IsAtFault (Err refusal) here after = OneBreaks P IsAtFault here after refusal

-- a call that asks for a table
abbrev pub ReadsTable : Result (String Global) CallRefusal → List ℕ → List ℕ → Type 0
ReadsTable result here after =
    ReadsOne (λ message table. AsksForTable message (string_bytes table)) (λ message. (table : List ℕ) × AsksForTable message table)
    (MeansAtFault flight_descriptor_descriptor TableFault) result here after

-- one that asks for all
abbrev pub ReadsCriteria : Result (Unit {0}) CallRefusal → List ℕ → List ℕ → Type 0
ReadsCriteria result here after =
    ReadsOne (λ message done. AsksForAll message) AsksForAll (MeansAtFault criteria_descriptor CriteriaFault) result here after

-- one that asks for a version
abbrev pub ReadsTicket : Result TableVersion CallRefusal → List ℕ → List ℕ → Type 0
ReadsTicket result here after =
    ReadsOne AsksForVersion (λ message. (asked : TableVersion) × AsksForVersion message asked)
    (MeansAtFault ticket_descriptor TicketFault) result here after

-- ---- whole calls

-- the method of the path, or why there is none
abbrev pub ReadsMethod : Result Method CallRefusal → List ℕ → List ℕ → Type 0
ReadsMethod (Ok method) text here = text ≡ in_frame (path_text method) ++ here
ReadsMethod (Err refusal) text after = FrameBreaks text after refusal ⊎ PathBreaks text after refusal

-- what the program holds of a request
abbrev pub request_of : FlightRequest → Request
request_of (asks.GetFlightInfo table) = describes (string_bytes table)
request_of (asks.GetSchema table) = shows (string_bytes table)
request_of asks.ListFlights = lists
request_of (asks.DoGet asked) = serves asked
request_of (asks.DoPut text) = puts text

-- behind the path stand messages that ask for this, and an end
pub record AsksFor (request : Request) (here after : List ℕ) : Type 0 where
  pub messages : List (List ℕ)
  pub parts : here ≡ messages_text messages ++ (end_text ++ after)
  pub fit : AllByRecursion FitsFrame messages
  pub few : length messages ≤ messages_limit
  pub mean : MessagesMean request messages

-- what reading the messages behind the path of a method gives
abbrev pub ReadsMessages : Method → Result FlightRequest CallRefusal → List ℕ → List ℕ → Type 0
ReadsMessages method (Ok asked) here after = (method ≡ method_of (request_of asked)) × AsksFor (request_of asked) here after
ReadsMessages method (Err refusal) here after = BreaksMessages method here after refusal

abbrev pub ReadsCall : Result FlightRequest CallRefusal → List ℕ → List ℕ → Type 0
ReadsCall (Ok asked) text rest = IsCall text (request_of asked) rest
ReadsCall (Err refusal) text rest = RefusalStands refusal text rest
