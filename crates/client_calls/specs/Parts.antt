-- What the parts of reading an answer give: tools of the contracts of private functions.
use Rattle.std.specs.Prelude.{◌≡◌, ◌≢◌, ◌⊎◌, ◌<◌, ◌^◌, ℕ, List, [], ◌∷◌, ◌++◌, length, IsUtf8, string_bytes, Vec, Result, Ok, Err}
use Rattle.std.specs.declared.alloc.Global.{Global}
use Rattle.std.specs.List.{AllByRecursion}
use Rattle.grpc_frames.specs.Frame.{Frame, frame_text, IsFrame}
use Rattle.proto_fields.specs.declared.fault.WireFault.{WireFault}
use Rattle.proto_fields.specs.declared.fault.WireFault.TheVariants as wires
use Rattle.table_types.specs.Served.{in_frame}
use Rattle.table_types.specs.Valid.{FitsFrame}
use Rattle.call_protocol.specs.Results.{applied_text, put_result}
use Rattle.call_protocol.specs.Statuses.{trailer_text, ok_trailer}
use Rattle.call_protocol.specs.Texts.{messages_text}
use Rattle.call_protocol.specs.declared.call_fault.CallFault.TheVariants as calls
use Rattle.client_calls.specs.declared.client_fault.ClientFault.{ClientFault}
use Rattle.client_calls.specs.declared.client_fault.ClientFault.TheVariants as faults
use Rattle.client_calls.specs.declared.parts.AnswerPart.{AnswerPart}
use Rattle.client_calls.specs.declared.parts.AnswerPart.TheVariants as parts
use Rattle.client_calls.specs.declared.one.Kept.{Kept}
use Rattle.client_calls.specs.declared.one.Kept.TheVariants as kept
use Rattle.proto_wire.specs.declared.flight.info.FlightInfo.{FlightInfo}
use Rattle.client_calls.specs.declared.listing.Listing.{Listing}
use Rattle.client_calls.specs.declared.listing.Listing.TheVariants as listing
use Rattle.client_calls.specs.Results.{GivesInfos, HasInfos}

-- ---- frames

-- the status of a refusal, and its text
abbrev pub IsStatus : List ℕ → ℕ → List ℕ → Type 0
IsStatus payload code words = (payload ≡ code ∷ words) × (code ≢ 0) × IsUtf8 words

-- the payload of a trailer
abbrev pub IsTrailer : List ℕ → Type 0
IsTrailer payload = (payload ≡ 0 ∷ []) ⊎ ((code : ℕ) × (words : List ℕ) × IsStatus payload code words)

-- the frame has a message, or is a trailer
abbrev pub IsPart : Frame → Type 0
IsPart f = (f.flag ≡ 0) ⊎ ((f.flag ≡ 128) × IsTrailer f.payload)

-- no such frame stands here
abbrev pub IsNoPart : List ℕ → Type 0
IsNoPart here = (f : Frame) (rest : List ℕ) → IsFrame f → here ≡ frame_text f ++ rest → ¬ IsPart f

-- a refusal stands here, and this is left behind it
abbrev pub RefusesHere : List ℕ → ℕ → List ℕ → List ℕ → Type 0
RefusesHere here code words after =
    (here ≡ trailer_text code words ++ after) × FitsFrame (code ∷ words) × (code ≢ 0) × IsUtf8 words

-- what the payload of a trailer says
abbrev pub TrailerSays : List ℕ → Result AnswerPart ClientFault → Type 0
TrailerSays payload (Ok parts.End) = payload ≡ 0 ∷ []
TrailerSays payload (Ok (parts.Message message)) = ⊥
TrailerSays payload (Err (faults.Status code words)) = IsStatus payload code (string_bytes words)
TrailerSays payload (Err faults.BadAnswer) = ¬ IsTrailer payload
TrailerSays payload (Err (faults.Call calls.OutOfMemory)) = Unit {0}
TrailerSays payload (Err (faults.Call calls.Read)) = ⊥
TrailerSays payload (Err (faults.Call calls.Write)) = ⊥

-- what a frame says
abbrev pub FrameSays : Frame → Result AnswerPart ClientFault → Type 0
FrameSays f (Ok parts.End) = f ≡ record { flag = 128; payload = 0 ∷ [] }
FrameSays f (Ok (parts.Message message)) = f ≡ record { flag = 0; payload = message.items }
FrameSays f (Err (faults.Status code words)) = (f.flag ≡ 128) × IsStatus f.payload code (string_bytes words)
FrameSays f (Err faults.BadAnswer) = ¬ IsPart f
FrameSays f (Err (faults.Call calls.OutOfMemory)) = Unit {0}
FrameSays f (Err (faults.Call calls.Read)) = ⊥
FrameSays f (Err (faults.Call calls.Write)) = ⊥

-- the next frame has a message, or ends the answer; or it is neither
abbrev pub ReadsPart : Result AnswerPart ClientFault → List ℕ → List ℕ → Type 0
ReadsPart (Ok (parts.Message message)) here after = FitsFrame message.items × (here ≡ in_frame message.items ++ after)
ReadsPart (Ok parts.End) here after = here ≡ ok_trailer ++ after
ReadsPart (Err (faults.Status code words)) here after = RefusesHere here code (string_bytes words) after
ReadsPart (Err faults.BadAnswer) here after = IsNoPart here
ReadsPart (Err (faults.Call calls.Read)) here after = Unit {0}
ReadsPart (Err (faults.Call calls.OutOfMemory)) here after = Unit {0}
ReadsPart (Err (faults.Call calls.Write)) here after = ⊥

-- ---- messages

-- so many messages came, of which this holds, and this is left
pub record HasRead (Holds : List (List ℕ) → Type 0) (count : ℕ) (here now : List ℕ) : Type 0 where
  pub messages : List (List ℕ)
  pub parts : here ≡ messages_text messages ++ now
  pub fit : AllByRecursion FitsFrame messages
  pub count_is : length messages ≡ count
  pub holds : Holds messages

-- none came, or this one, or more than one
abbrev pub IsKept : Kept → List (List ℕ) → Type 0
IsKept kept.Nothing messages = messages ≡ []
IsKept (kept.One message) messages = messages ≡ message.items ∷ []
IsKept kept.Several messages =
    (first second : List ℕ) × (others : List (List ℕ)) × (messages ≡ first ∷ second ∷ others)

-- the one that came, if one did
abbrev pub KeepsOne : Kept → Result (Vec ℕ Global) ClientFault → Type 0
KeepsOne (kept.One message) result = result ≡ Ok message
KeepsOne kept.Nothing result = result ≡ Err faults.BadAnswer
KeepsOne kept.Several result = result ≡ Err faults.BadAnswer

-- each message that came tells of one of these tables; or one tells of none
abbrev pub IsListed : Listing → List (List ℕ) → Type 0
IsListed (listing.Told infos) messages = GivesInfos messages infos
IsListed listing.Spoiled messages = ¬ HasInfos messages

-- the tables with this one more
abbrev pub AddsInfo : Vec FlightInfo Global → FlightInfo → Listing → Type 0
AddsInfo infos info (listing.Told more) = more.items ≡ infos.items ++ info ∷ []
AddsInfo infos info listing.Spoiled = ⊥

-- what is left where a message could not be read
abbrev pub listing_without : WireFault → Result Listing ClientFault
listing_without wires.OutOfMemory = Err (faults.Call calls.OutOfMemory)
listing_without wires.BadVarint = Ok listing.Spoiled
listing_without wires.BadKey = Ok listing.Spoiled
listing_without wires.BadWireType = Ok listing.Spoiled
listing_without wires.CutShort = Ok listing.Spoiled
listing_without wires.NotUtf8 = Ok listing.Spoiled

-- this is kept of the messages and one more, or memory was refused
abbrev pub ListsMore : List (List ℕ) → List ℕ → Result Listing ClientFault → Type 0
ListsMore messages message (Ok next) = IsListed next (messages ++ message ∷ [])
ListsMore messages message (Err fault) = fault ≡ faults.Call calls.OutOfMemory

-- all tables, where each message tells of one
abbrev pub ListsAll : Listing → Result (Vec FlightInfo Global) ClientFault → Type 0
ListsAll (listing.Told infos) result = result ≡ Ok infos
ListsAll listing.Spoiled result = result ≡ Err faults.BadAnswer

-- memory was refused, or else the message is none of an answer
abbrev pub fault_of_wire : WireFault → ClientFault
fault_of_wire wires.OutOfMemory = faults.Call calls.OutOfMemory
fault_of_wire wires.BadVarint = faults.BadAnswer
fault_of_wire wires.BadKey = faults.BadAnswer
fault_of_wire wires.BadWireType = faults.BadAnswer
fault_of_wire wires.CutShort = faults.BadAnswer
fault_of_wire wires.NotUtf8 = faults.BadAnswer

-- what the one message of an answer says
abbrev pub MessageSays : {T : Type 0} → (List (List ℕ) → T → Type 0) → (List (List ℕ) → Type 0) → List ℕ → Result T ClientFault → Type 0
MessageSays Gives IsResult message (Ok value) = Gives (message ∷ []) value
MessageSays Gives IsResult message (Err faults.BadAnswer) = ¬ IsResult (message ∷ [])
MessageSays Gives IsResult message (Err (faults.Status code words)) = ⊥
MessageSays Gives IsResult message (Err (faults.Call calls.OutOfMemory)) = Unit {0}
MessageSays Gives IsResult message (Err (faults.Call calls.Read)) = ⊥
MessageSays Gives IsResult message (Err (faults.Call calls.Write)) = ⊥

-- the message is the result of an upload of this id, which made this version
pub record IsResultOf (id : List ℕ) (version : ℕ) (message : List ℕ) : Type 0 where
  pub is : message ≡ put_result id version
  pub fits : FitsFrame message
  pub version_fits : version < 2 ^ 64

-- the bytes are its metadata
pub record IsMetadataOf (id : List ℕ) (version : ℕ) (metadata : List ℕ) : Type 0 where
  pub is : metadata ≡ applied_text id version
  pub fits : FitsFrame metadata
  pub version_fits : version < 2 ^ 64
