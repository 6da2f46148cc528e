-- What the bytes of a message mean. A message is a list of protobuf fields: 1 kind, 2 sender, 3 slot, 5 round and 6 node
-- of its ballot, 7 round and 8 node of a second ballot, 9 the value. Lamport, "Paxos Made Simple", sections 2.2 and 2.3,
-- has the messages; the numbers are this service's own. Numbers are whole ones of 64 bits, never cut.
use Rattle.std.specs.Prelude.{◌≡◌, ◌≢◌, ℕ, ◌<◌, ◌≤◌, ◌⊎◌, List, [], ◌∷◌, ◌++◌, length, Option, Some, None}
use Rattle.proto_fields.specs.declared.fault.WireFault.TheVariants.{BadWireType}
use Rattle.proto_fields.specs.Field.{Field, Varint, Bytes, IsFields, FieldsFault, fields_text, present}
use Rattle.proto_fields.specs.Meaning.{number_meant, bytes_meant}
use Rattle.ballots.specs.declared.node.TheConstants.{MAX_NODE}
use Rattle.ballots.specs.declared.slot.TheConstants.{MAX_SLOT}
use Rattle.ballots.specs.declared.ballot.TheConstants.{MAX_ROUND}
use Rattle.ballots.specs.declared.value.TheConstants.{MAX_UPLOAD_BYTES}
use Rattle.ballots.specs.declared.message.numbers.TheConstants.{KIND, SENDER, SLOT, ROUND, NODE, SECOND_ROUND, SECOND_NODE, VALUE, PREPARE, PROMISE, NACK, ACCEPT, ACCEPTED, ASK, DECIDED}
use Rattle.ballots.specs.declared.value.Value.{Value}
use Rattle.ballots.specs.declared.value.Value.TheVariants.{Noop, Upload}
use Rattle.ballots.specs.declared.acceptance.Acceptance.{Acceptance}
use Rattle.ballots.specs.declared.message.Message.{Message}
use Rattle.ballots.specs.declared.message.Body.{Body}
use Rattle.ballots.specs.declared.message.Body.TheVariants.{Prepare, Promise, Nack, Accept, Accepted, Ask, Decided}
use Rattle.ballots.specs.declared.fault.MessageFault.{MessageFault}
use Rattle.ballots.specs.declared.fault.MessageFault.TheVariants.{Wire, BadKind, OutOfRange, OutOfMemory}
use Rattle.ballots.specs.Ballot.{Ballot, IsBallot}
use Rattle.ballots.specs.Value.{IsUploadBytes}

-- what each field of a message means: the last one given or its default, or nothing where one is of another wire type
pub record Parts : Type 0 where
  pub kind : Option ℕ
  pub sender : Option ℕ
  pub slot : Option ℕ
  pub round : Option ℕ
  pub node : Option ℕ
  pub second_round : Option ℕ
  pub second_node : Option ℕ
  pub value : Option (List ℕ)

abbrev pub parts_of : List Field → Parts
parts_of fields = record {
  kind = number_meant KIND fields;
  sender = number_meant SENDER fields;
  slot = number_meant SLOT fields;
  round = number_meant ROUND fields;
  node = number_meant NODE fields;
  second_round = number_meant SECOND_ROUND fields;
  second_node = number_meant SECOND_NODE fields;
  value = bytes_meant VALUE fields;
}

-- ---- the messages, each an envelope: who sends it, for which slot, and what it says

-- no bytes are a Noop
abbrev pub value_bytes : Value → List ℕ
value_bytes Noop = []
value_bytes (Upload bytes) = bytes

abbrev pub IsValue : Value → Type 0
IsValue Noop = Unit {0}
IsValue (Upload bytes) = IsUploadBytes bytes

-- what this node says of this slot
abbrev pub message : (sender slot : ℕ) → Body → Message
message sender slot body = record { sender = sender; slot = slot; body = body }

-- the number of its kind
abbrev pub kind_of : Body → ℕ
kind_of (Prepare ballot) = PREPARE
kind_of (Promise ballot report) = PROMISE
kind_of (Nack ballot promised) = NACK
kind_of (Accept proposal) = ACCEPT
kind_of (Accepted acceptance) = ACCEPTED
kind_of Ask = ASK
kind_of (Decided value) = DECIDED

-- what every message has
pub record MeansHead (p : Parts) (kind sender slot : ℕ) : Type 0 where
  pub kind_is : p.kind ≡ Some kind
  pub sender_is : p.sender ≡ Some sender
  pub slot_is : p.slot ≡ Some slot
  pub sender_within : sender ≤ MAX_NODE
  pub slot_within : slot ≤ MAX_SLOT

pub record MeansBallot (round node : Option ℕ) (b : Ballot) : Type 0 where
  pub round_is : round ≡ Some b.round
  pub node_is : node ≡ Some b.node
  pub within : IsBallot b

pub record MeansValue (bytes : Option (List ℕ)) (v : Value) : Type 0 where
  pub bytes_are : bytes ≡ Some (value_bytes v)
  pub within : IsValue v

abbrev pub MeansAcceptance : Option ℕ → Option ℕ → Option (List ℕ) → Acceptance → Type 0
MeansAcceptance round node bytes a = MeansBallot round node a.ballot × MeansValue bytes a.value

-- a Promise reports exactly where its second round is not 0
abbrev pub MeansReport : Parts → Option Acceptance → Type 0
MeansReport p None = p.second_round ≡ Some 0
MeansReport p (Some report) = MeansAcceptance p.second_round p.second_node p.value report

-- what a message says, beside its head; fields that its kind doesn't have are passed over
abbrev pub MeansBody : Parts → Body → Type 0
MeansBody p (Prepare ballot) = MeansBallot p.round p.node ballot
MeansBody p (Promise ballot report) = MeansBallot p.round p.node ballot × MeansReport p report
MeansBody p (Nack ballot promised) = MeansBallot p.round p.node ballot × MeansBallot p.second_round p.second_node promised
MeansBody p (Accept proposal) = MeansAcceptance p.round p.node p.value proposal
MeansBody p (Accepted acceptance) = MeansAcceptance p.round p.node p.value acceptance
MeansBody p Ask = Unit {0}
MeansBody p (Decided value) = MeansValue p.value value

-- these fields mean the message
abbrev pub Means : Parts → Message → Type 0
Means p m = MeansHead p (kind_of m.body) m.sender m.slot × MeansBody p m.body

-- the messages that there are
abbrev pub IsAcceptanceInRange : Acceptance → Type 0
IsAcceptanceInRange a = IsBallot a.ballot × IsValue a.value

abbrev pub IsReportInRange : Option Acceptance → Type 0
IsReportInRange None = Unit {0}
IsReportInRange (Some report) = IsAcceptanceInRange report

abbrev pub IsBodyInRange : Body → Type 0
IsBodyInRange (Prepare ballot) = IsBallot ballot
IsBodyInRange (Promise ballot report) = IsBallot ballot × IsReportInRange report
IsBodyInRange (Nack ballot promised) = IsBallot ballot × IsBallot promised
IsBodyInRange (Accept proposal) = IsAcceptanceInRange proposal
IsBodyInRange (Accepted acceptance) = IsAcceptanceInRange acceptance
IsBodyInRange Ask = Unit {0}
IsBodyInRange (Decided value) = IsValue value

abbrev pub IsInRange : Message → Type 0
IsInRange m = (m.sender ≤ MAX_NODE) × (m.slot ≤ MAX_SLOT) × IsBodyInRange m.body

-- what is copied where such a message is read: the bytes of an upload
abbrev pub IsUploadValue : Value → Type 0
IsUploadValue Noop = ⊥
IsUploadValue (Upload bytes) = Unit {0}

abbrev pub ReportsUpload : Option Acceptance → Type 0
ReportsUpload None = ⊥
ReportsUpload (Some report) = IsUploadValue report.value

abbrev pub CarriesUpload : Body → Type 0
CarriesUpload (Prepare ballot) = ⊥
CarriesUpload (Promise ballot report) = ReportsUpload report
CarriesUpload (Nack ballot promised) = ⊥
CarriesUpload (Accept proposal) = IsUploadValue proposal.value
CarriesUpload (Accepted acceptance) = IsUploadValue acceptance.value
CarriesUpload Ask = ⊥
CarriesUpload (Decided value) = IsUploadValue value

abbrev pub HasUpload : Message → Type 0
HasUpload m = CarriesUpload m.body

-- the text is a list of fields that mean the message
pub record IsMessageText (text : List ℕ) (m : Message) : Type 0 where
  pub fields : List Field
  pub encodes : IsFields text fields
  pub means : Means (parts_of fields) m

-- ---- faults

-- where a field has another wire type, and where a number is outside its limits
abbrev pub Misfit : Type 0 → Type 0 → MessageFault → Type 0
Misfit another_type out_of_range (Wire BadWireType) = another_type
Misfit another_type out_of_range OutOfRange = out_of_range
Misfit another_type out_of_range other = ⊥

-- the number is there, and more than the limit
abbrev pub IsAbove : Option ℕ → ℕ → Type 0
IsAbove number limit = (n : ℕ) × (number ≡ Some n) × (limit < n)

abbrev pub HeadFault : Parts → MessageFault → Type 0
HeadFault p fault = Misfit ((p.kind ≡ None) ⊎ (p.sender ≡ None) ⊎ (p.slot ≡ None)) (IsAbove p.sender MAX_NODE ⊎ IsAbove p.slot MAX_SLOT) fault

abbrev pub BallotFault : Option ℕ → Option ℕ → MessageFault → Type 0
BallotFault round node fault = Misfit ((round ≡ None) ⊎ (node ≡ None)) ((round ≡ Some 0) ⊎ IsAbove round MAX_ROUND ⊎ IsAbove node MAX_NODE) fault

abbrev pub ValueFault : Option (List ℕ) → MessageFault → Type 0
ValueFault bytes fault = Misfit (bytes ≡ None) ((b : List ℕ) × (bytes ≡ Some b) × (MAX_UPLOAD_BYTES < length b)) fault

abbrev pub IsOfKind : Parts → ℕ → Type 0
IsOfKind p kind = p.kind ≡ Some kind

-- what is wrong with a field that a message of this kind has
pub data BodyFault (p : Parts) (fault : MessageFault) : Type 0 where
  in_prepare : IsOfKind p PREPARE → BallotFault p.round p.node fault → BodyFault p fault
  in_promise : IsOfKind p PROMISE → BallotFault p.round p.node fault → BodyFault p fault
  in_report : IsOfKind p PROMISE → p.second_round ≢ Some 0
      → BallotFault p.second_round p.second_node fault ⊎ ValueFault p.value fault → BodyFault p fault
  in_nack : IsOfKind p NACK → BallotFault p.round p.node fault ⊎ BallotFault p.second_round p.second_node fault → BodyFault p fault
  in_accept : IsOfKind p ACCEPT → BallotFault p.round p.node fault ⊎ ValueFault p.value fault → BodyFault p fault
  in_accepted : IsOfKind p ACCEPTED → BallotFault p.round p.node fault ⊎ ValueFault p.value fault → BodyFault p fault
  in_decided : IsOfKind p DECIDED → ValueFault p.value fault → BodyFault p fault

-- the kind is there, and none of the seven
pub record IsUnknownKind (p : Parts) : Type 0 where
  pub kind : ℕ
  pub is : p.kind ≡ Some kind
  pub unknown : (kind < PREPARE) ⊎ (DECIDED < kind)

-- what is wrong with fields that mean no message
abbrev pub PartsFault : Parts → MessageFault → Type 0
PartsFault p fault = HeadFault p fault ⊎ BodyFault p fault ⊎ ((fault ≡ BadKind) × IsUnknownKind p)

-- the text is no list of fields, for this reason
abbrev pub WireStands : MessageFault → List ℕ → Type 0
WireStands (Wire fault) text = FieldsFault fault text
WireStands other text = ⊥

-- the fault stands in the text, or memory was refused
abbrev pub IsFaultOf : List ℕ → MessageFault → Type 0
IsFaultOf text fault =
    (fault ≡ OutOfMemory) ⊎ WireStands fault text
    ⊎ ((fields : List Field) × IsFields text fields × PartsFault (parts_of fields) fault)

-- ---- the one written encoding

abbrev pub number_field : ℕ → ℕ → Field
number_field number n = record { number = number; held = Varint n }

abbrev pub head_fields : ℕ → ℕ → ℕ → List Field
head_fields kind sender slot = number_field KIND kind ∷ number_field SENDER sender ∷ number_field SLOT slot ∷ []

abbrev pub ballot_fields : Ballot → List Field
ballot_fields b = number_field ROUND b.round ∷ number_field NODE b.node ∷ []

abbrev pub second_fields : Ballot → List Field
second_fields b = number_field SECOND_ROUND b.round ∷ number_field SECOND_NODE b.node ∷ []

abbrev pub value_fields : Value → List Field
value_fields v = record { number = VALUE; held = Bytes (value_bytes v) } ∷ []

abbrev pub report_fields : Option Acceptance → List Field
report_fields None = []
report_fields (Some report) = second_fields report.ballot ++ value_fields report.value

-- what a message says beside its head, by rising field numbers
abbrev pub body_fields : Body → List Field
body_fields (Prepare ballot) = ballot_fields ballot
body_fields (Promise ballot report) = ballot_fields ballot ++ report_fields report
body_fields (Nack ballot promised) = ballot_fields ballot ++ second_fields promised
body_fields (Accept proposal) = ballot_fields proposal.ballot ++ value_fields proposal.value
body_fields (Accepted acceptance) = ballot_fields acceptance.ballot ++ value_fields acceptance.value
body_fields Ask = []
body_fields (Decided value) = value_fields value

-- all that a message says
abbrev pub all_fields : Message → List Field
all_fields m = head_fields (kind_of m.body) m.sender m.slot ++ body_fields m.body

-- the text of these fields without those that hold their default
abbrev pub written : List Field → List ℕ
written fields = fields_text (present fields)

-- the one encoding of a message: rising field numbers, shortest varints, defaults left out
unfoldable pub canonical : Message → List ℕ
canonical m = written (all_fields m)
