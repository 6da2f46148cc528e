-- What is wrong with a text that begins with no call, and where: each fault by what stands at its place, behind a path and
-- messages without fault. The statuses that tell of it are in `call_protocol`.
use Rattle.std.specs.Prelude.{◌≡◌, ◌≢◌, ◌⊎◌, ◌≤◌, ℕ, List, [], ◌∷◌, ◌++◌, length, None, Some}
use Rattle.std.specs.List.{AllByRecursion}
use Rattle.grpc_frames.specs.Frame.{frame_text}
use Rattle.grpc_frames.specs.FrameFaults.{FrameFaultStands, LeavesAfter}
use Rattle.grpc_frames.specs.declared.fault.FrameFault.{FrameFault}
use Rattle.grpc_frames.specs.declared.fault.FrameFault.TheVariants as frames
use Rattle.proto_fields.specs.declared.fault.WireFault.{WireFault}
use Rattle.proto_fields.specs.declared.fault.WireFault.TheVariants as wires
use Rattle.proto_messages.specs.Descriptor.{Descriptor as MessageType, Values, IsMessage, IsMessageFault, IsFaultless}
use Rattle.proto_wire.specs.Flight.{flight_descriptor_descriptor, ticket_descriptor, criteria_descriptor, data_descriptor}
use Rattle.header_types.specs.Fields.{SchemaTree}
use Rattle.header_types.specs.Header.{Head, Header, schema_header, batch_header, ShowsHeader}
use Rattle.header_types.specs.declared.fault.MetaFault.{MetaFault}
use Rattle.header_types.specs.declared.fault.MetaFault.TheVariants as metas
use Rattle.header_reading.specs.Faults.{HeaderFault}
use Rattle.batch_types.specs.declared.fault.BatchFault.{BatchFault}
use Rattle.batch_types.specs.declared.fault.BatchFault.TheVariants as batches
use Rattle.record_batches.specs.Reading.{IsToldOf}
use Rattle.table_types.specs.Uploads.{Upload}
use Rattle.table_types.specs.Served.{in_frame}
use Rattle.table_types.specs.Valid.{FitsFrame, batches_limit}
use Rattle.table_types.specs.Ticket.{TableVersion, IsTicket}
use Rattle.uploads.specs.Making.{IsSmall}
use Rattle.call_protocol.specs.declared.back_fault.BackFault.TheVariants as backs
use Rattle.call_protocol.specs.declared.method.Method.{Method}
use Rattle.call_protocol.specs.declared.method.Method.TheVariants as methods
use Rattle.call_protocol.specs.declared.refusal.CallRefusal.{CallRefusal}
use Rattle.call_protocol.specs.declared.refusal.CallRefusal.TheVariants as refusals
use Rattle.call_protocol.specs.Methods.{path_text, PathFault}
use Rattle.call_protocol.specs.Names.{Descriptor, TableFault, UploadNameFault}
use Rattle.call_protocol.specs.Texts.{messages_text, end_text}
use Rattle.call_reading.specs.Requests.{Data, header_in, body_in, IsBlank, AsksForTable, AsksForAll, AsksForVersion, Brings, messages_limit}

-- ---- one message

-- It is no message of this type; of memory only where no fault stands in it.
pub record IsNoMessage (type : MessageType) (message : List ℕ) (refusal : CallRefusal) : Type 0 where
  pub fault : WireFault
  pub is : refusal ≡ refusals.Wire fault
  pub stands : IsMessageFault type message fault
  pub memory : fault ≡ wires.OutOfMemory → IsFaultless type message

-- it is none, or what it means is at fault
abbrev pub MeansAtFault : (type : MessageType) → (Values type → CallRefusal → Type 0) → List ℕ → CallRefusal → Type 0
MeansAtFault type IsAtFault message refusal =
    IsNoMessage type message refusal ⊎ ((values : Values type) × IsMessage type message values × IsAtFault values refusal)

abbrev pub CriteriaFault : Values criteria_descriptor → CallRefusal → Type 0
CriteriaFault values refusal = (values.0 ≢ []) × (refusal ≡ refusals.Criteria)

-- no ticket
abbrev pub TicketFault : Values ticket_descriptor → CallRefusal → Type 0
TicketFault values refusal = ((asked : TableVersion) → ¬ IsTicket values.0 asked) × (refusal ≡ refusals.BadTicket)

-- the header can't be read: a fault stands in it, or it shows one and memory was refused
pub record IsNoHeader (header : List ℕ) (refusal : CallRefusal) : Type 0 where
  pub fault : MetaFault
  pub is : refusal ≡ refusals.Meta fault
  pub stands : HeaderFault header fault ⊎ ((fault ≡ metas.OutOfMemory) × ((shown : Header) × ShowsHeader header shown))

abbrev pub SchemaFault : List ℕ → CallRefusal → Type 0
SchemaFault header refusal =
    ((refusal ≡ refusals.NoSchema) × ((header ≡ []) ⊎ ((head : Head) × ShowsHeader header (batch_header head))))
    ⊎ ((header ≢ []) × IsNoHeader header refusal)

-- the first message of an upload: its descriptor, and its schema
abbrev pub OpeningFault : Data → CallRefusal → Type 0
OpeningFault values refusal =
    ((values.0 ≡ None) × (refusal ≡ refusals.BadDescriptor))
    ⊎ ((descriptor : Descriptor) × (values.0 ≡ Some descriptor) × UploadNameFault descriptor refusal)
    ⊎ SchemaFault (header_in values) refusal

-- a header of a batch, and a body that it does not lay out as one; or one batch more than an upload may have
abbrev pub BatchFaultIn : SchemaTree → ℕ → List ℕ → List ℕ → CallRefusal → Type 0
BatchFaultIn schema count header body refusal =
    (head : Head) × ShowsHeader header (batch_header head)
    × (((fault : BatchFault) × IsToldOf schema head body fault × (refusal ≡ refusals.Batch fault))
    ⊎ ((count ≡ batches_limit) × (refusal ≡ refusals.TooManyBatches)))

-- a header that is none of a batch
abbrev pub HeadFault : List ℕ → CallRefusal → Type 0
HeadFault header refusal =
    IsNoHeader header refusal
    ⊎ (((other : SchemaTree) × ShowsHeader header (schema_header other)) × (refusal ≡ refusals.SecondSchema))

-- a message behind the first, where there are so many batches
abbrev pub FurtherFault : SchemaTree → ℕ → Data → CallRefusal → Type 0
FurtherFault schema count values refusal =
    (¬ IsBlank (header_in values) (body_in values))
    × (HeadFault (header_in values) refusal ⊎ BatchFaultIn schema count (header_in values) (body_in values) refusal)

-- ---- the next message, behind those that came

-- a method that asks for one message, which is at fault, or is one too many
abbrev pub OneFault : (List ℕ → CallRefusal → Type 0) → List (List ℕ) → List ℕ → CallRefusal → Type 0
OneFault IsAtFault [] message refusal = IsAtFault message refusal
OneFault IsAtFault (first ∷ others) message refusal = refusal ≡ refusals.MessageCount

abbrev pub UploadFault : List (List ℕ) → List ℕ → CallRefusal → Type 0
UploadFault [] message refusal = MeansAtFault data_descriptor OpeningFault message refusal
UploadFault (first ∷ others) message refusal =
    ((length (first ∷ others) ≡ messages_limit) × (refusal ≡ refusals.MessageCount))
    ⊎ ((upload : Upload) × Brings (first ∷ others) upload
    × MeansAtFault data_descriptor (FurtherFault upload.schema (length upload.batches)) message refusal)

abbrev pub MessageFault : Method → List (List ℕ) → List ℕ → CallRefusal → Type 0
MessageFault methods.GetFlightInfo before message refusal =
    OneFault (MeansAtFault flight_descriptor_descriptor TableFault) before message refusal
MessageFault methods.GetSchema before message refusal =
    OneFault (MeansAtFault flight_descriptor_descriptor TableFault) before message refusal
MessageFault methods.ListFlights before message refusal =
    OneFault (MeansAtFault criteria_descriptor CriteriaFault) before message refusal
MessageFault methods.DoGet before message refusal = OneFault (MeansAtFault ticket_descriptor TicketFault) before message refusal
MessageFault methods.DoPut before message refusal = UploadFault before message refusal

-- ---- the end, behind the messages that came

-- no message where one is asked for
abbrev pub EndsEarly : List (List ℕ) → CallRefusal → Type 0
EndsEarly messages refusal = (messages ≡ []) × (refusal ≡ refusals.MessageCount)

abbrev pub UploadEndFault : List (List ℕ) → CallRefusal → Type 0
UploadEndFault messages refusal =
    ((messages ≡ []) × (refusal ≡ refusals.NoSchema))
    ⊎ ((upload : Upload) × Brings messages upload × (¬ IsSmall upload) × (refusal ≡ refusals.TooLarge))

abbrev pub EndFault : Method → List (List ℕ) → CallRefusal → Type 0
EndFault methods.GetFlightInfo messages refusal = EndsEarly messages refusal
EndFault methods.GetSchema messages refusal = EndsEarly messages refusal
EndFault methods.ListFlights messages refusal = EndsEarly messages refusal
EndFault methods.DoGet messages refusal = EndsEarly messages refusal
EndFault methods.DoPut messages refusal = UploadEndFault messages refusal

-- ---- places

-- so far there is no fault: no message yet, or such as the method asks for
abbrev pub IsOneOrNone : (List ℕ → Type 0) → List (List ℕ) → Type 0
IsOneOrNone P [] = Unit {0}
IsOneOrNone P (message ∷ []) = P message
IsOneOrNone P (message ∷ second ∷ others) = ⊥

abbrev pub IsUploadOrNone : List (List ℕ) → Type 0
IsUploadOrNone [] = Unit {0}
IsUploadOrNone (first ∷ others) =
    (upload : Upload) × Brings (first ∷ others) upload × (length upload.batches ≤ batches_limit)
    × (length (first ∷ others) ≤ messages_limit)

abbrev pub IsFaultlessSoFar : Method → List (List ℕ) → Type 0
IsFaultlessSoFar methods.GetFlightInfo messages =
    IsOneOrNone (λ message. (table : List ℕ) × AsksForTable message table) messages
IsFaultlessSoFar methods.GetSchema messages =
    IsOneOrNone (λ message. (table : List ℕ) × AsksForTable message table) messages
IsFaultlessSoFar methods.ListFlights messages = IsOneOrNone AsksForAll messages
IsFaultlessSoFar methods.DoGet messages =
    IsOneOrNone (λ message. (asked : TableVersion) × AsksForVersion message asked) messages
IsFaultlessSoFar methods.DoPut messages = IsUploadOrNone messages

-- the end is no fault behind these messages: there are some; and an upload that they bring is not too large
abbrev pub IsFaultlessEnd : Method → List (List ℕ) → Type 0
IsFaultlessEnd methods.GetFlightInfo messages = messages ≢ []
IsFaultlessEnd methods.GetSchema messages = messages ≢ []
IsFaultlessEnd methods.ListFlights messages = messages ≢ []
IsFaultlessEnd methods.DoGet messages = messages ≢ []
IsFaultlessEnd methods.DoPut messages = (upload : Upload) × Brings messages upload × IsSmall upload

-- no frame can be read here; or the text ends; or an end has a payload
abbrev pub FrameBreaks : List ℕ → List ℕ → CallRefusal → Type 0
FrameBreaks here after refusal =
    ((fault : FrameFault) × FrameFaultStands fault here × LeavesAfter fault here after × (refusal ≡ refusals.Frame fault))
    ⊎ ((here ≡ []) × (after ≡ []) × (refusal ≡ refusals.NoEnd))
    ⊎ ((payload : List ℕ) × (payload ≢ []) × FitsFrame payload × (here ≡ frame_text (record { flag = 128; payload = payload }) ++ after)
    × (refusal ≡ refusals.EndPayload))

-- the first frame has no path of a method
abbrev pub PathBreaks : List ℕ → List ℕ → CallRefusal → Type 0
PathBreaks text after refusal =
    ((text ≡ end_text ++ after) × (refusal ≡ refusals.BadPath))
    ⊎ ((path : List ℕ) × (text ≡ in_frame path ++ after) × FitsFrame path × PathFault path refusal)

-- a message is at fault; or the messages are, once their end has come; or memory was refused, and neither is
abbrev pub MessageBreaks : Method → List (List ℕ) → List ℕ → List ℕ → CallRefusal → Type 0
MessageBreaks method before here after refusal =
    ((message : List ℕ) × (here ≡ in_frame message ++ after) × FitsFrame message
    × (MessageFault method before message refusal
    ⊎ (IsFaultlessSoFar method (before ++ message ∷ []) × (refusal ≡ refusals.OutOfMemory))))
    ⊎ ((here ≡ end_text ++ after)
    × (EndFault method before refusal ⊎ (IsFaultlessEnd method before × (refusal ≡ refusals.OutOfMemory))))

-- behind messages without fault, one stands
pub record BreaksMessages (method : Method) (here after : List ℕ) (refusal : CallRefusal) : Type 0 where
  pub before : List (List ℕ)
  pub place : List ℕ
  pub parts : here ≡ messages_text before ++ place
  pub fit : AllByRecursion FitsFrame before
  pub faultless : IsFaultlessSoFar method before
  pub breaks : FrameBreaks place after refusal ⊎ MessageBreaks method before place after refusal

-- The first fault of a text is this one, and this is left of the text behind it: the path is at fault, or what stands behind
-- the path of a method.
abbrev pub RefusalStands : CallRefusal → List ℕ → List ℕ → Type 0
RefusalStands refusal text after =
    FrameBreaks text after refusal
    ⊎ PathBreaks text after refusal
    ⊎ ((method : Method) × (here : List ℕ) × (text ≡ in_frame (path_text method) ++ here) × BreaksMessages method here after refusal)

-- ---- what the text is not to blame for

-- memory was refused
abbrev pub IsOfMemory : CallRefusal → Type 0
IsOfMemory (refusals.Frame fault) = fault ≡ frames.OutOfMemory
IsOfMemory (refusals.Wire fault) = fault ≡ wires.OutOfMemory
IsOfMemory (refusals.Meta fault) = fault ≡ metas.OutOfMemory
IsOfMemory (refusals.Batch fault) = fault ≡ batches.OutOfMemory
IsOfMemory (refusals.Back fault) = fault ≡ backs.OutOfMemory
IsOfMemory refusals.OutOfMemory = Unit {0}
IsOfMemory refusals.EndPayload = ⊥
IsOfMemory refusals.NoEnd = ⊥
IsOfMemory refusals.BadPath = ⊥
IsOfMemory refusals.NoCall = ⊥
IsOfMemory refusals.MessageCount = ⊥
IsOfMemory refusals.BadDescriptor = ⊥
IsOfMemory refusals.CmdDescriptor = ⊥
IsOfMemory refusals.Criteria = ⊥
IsOfMemory refusals.BadTicket = ⊥
IsOfMemory refusals.NoSchema = ⊥
IsOfMemory refusals.SecondSchema = ⊥
IsOfMemory refusals.TooManyBatches = ⊥
IsOfMemory refusals.TooLarge = ⊥
IsOfMemory refusals.SchemaMismatch = ⊥
IsOfMemory refusals.Conflict = ⊥
IsOfMemory refusals.Undecided = ⊥

-- memory was refused, or a read failed
abbrev pub IsOfTheMachine : CallRefusal → Type 0
IsOfTheMachine refusal = IsOfMemory refusal ⊎ (refusal ≡ refusals.Frame frames.Io)
