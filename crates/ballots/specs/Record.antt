-- What the bytes of a record mean. A record is a list of protobuf fields: 1 kind, 2 slot, 3 round and 4 node of its
-- ballot, 5 the value. Lamport, "Paxos Made Simple", sections 2.2, 2.5 and 3, says what is to be kept; the numbers are
-- this service's own. Numbers are whole ones of 64 bits, never cut.
use Rattle.std.specs.Prelude.{◌≡◌, ℕ, ◌<◌, ◌≤◌, ◌⊎◌, List, [], ◌∷◌, ◌++◌, Option, Some, None}
use Rattle.proto_fields.specs.declared.fault.WireFault.TheVariants.{BadWireType}
use Rattle.proto_fields.specs.Field.{Field, Bytes, IsFields}
use Rattle.proto_fields.specs.Meaning.{number_meant, bytes_meant}
use Rattle.ballots.specs.declared.slot.TheConstants.{MAX_SLOT}
use Rattle.ballots.specs.declared.record.numbers.TheConstants.{KIND, SLOT, ROUND, NODE, VALUE, BEGAN, PROMISED, ACCEPTED, PROMISED_FROM}
use Rattle.ballots.specs.declared.value.Value.{Value}
use Rattle.ballots.specs.declared.record.Record.{Record}
use Rattle.ballots.specs.declared.record.Record.TheVariants.{Began, Promised, Accepted, PromisedFrom}
use Rattle.ballots.specs.declared.fault.MessageFault.{MessageFault}
use Rattle.ballots.specs.declared.fault.MessageFault.TheVariants.{Wire, BadKind, OutOfMemory}
use Rattle.ballots.specs.Ballot.{Ballot, IsBallot}
use Rattle.ballots.specs.Message.{value_bytes, IsAcceptanceInRange, IsUploadValue, MeansBallot, MeansAcceptance, Misfit, IsAbove, BallotFault, ValueFault, WireStands, number_field, written}

-- what each field of a record means: the last one given or its default, or nothing where one is of another wire type
pub record RecordParts : Type 0 where
  pub kind : Option ℕ
  pub slot : Option ℕ
  pub round : Option ℕ
  pub node : Option ℕ
  pub value : Option (List ℕ)

abbrev pub record_parts_of : List Field → RecordParts
record_parts_of fields = record {
  kind = number_meant KIND fields;
  slot = number_meant SLOT fields;
  round = number_meant ROUND fields;
  node = number_meant NODE fields;
  value = bytes_meant VALUE fields;
}

-- ---- the records

pub record MeansSlot (number : Option ℕ) (slot : ℕ) : Type 0 where
  pub slot_is : number ≡ Some slot
  pub within : slot ≤ MAX_SLOT

-- These fields mean the record. Fields that its kind doesn't have are passed over.
abbrev pub MeansRecord : RecordParts → Record → Type 0
MeansRecord p (Began ballot) = (p.kind ≡ Some BEGAN) × MeansBallot p.round p.node ballot
MeansRecord p (Promised slot ballot) = (p.kind ≡ Some PROMISED) × MeansSlot p.slot slot × MeansBallot p.round p.node ballot
MeansRecord p (Accepted slot acceptance) =
    (p.kind ≡ Some ACCEPTED) × MeansSlot p.slot slot × MeansAcceptance p.round p.node p.value acceptance
MeansRecord p (PromisedFrom first ballot) =
    (p.kind ≡ Some PROMISED_FROM) × MeansSlot p.slot first × MeansBallot p.round p.node ballot

-- the records that there are
abbrev pub IsRecordInRange : Record → Type 0
IsRecordInRange (Began ballot) = IsBallot ballot
IsRecordInRange (Promised slot ballot) = (slot ≤ MAX_SLOT) × IsBallot ballot
IsRecordInRange (Accepted slot acceptance) = (slot ≤ MAX_SLOT) × IsAcceptanceInRange acceptance
IsRecordInRange (PromisedFrom first ballot) = (first ≤ MAX_SLOT) × IsBallot ballot

-- what is copied where such a record is read: the bytes of an upload
abbrev pub KeepsUpload : Record → Type 0
KeepsUpload (Began ballot) = ⊥
KeepsUpload (Promised slot ballot) = ⊥
KeepsUpload (Accepted slot acceptance) = IsUploadValue acceptance.value
KeepsUpload (PromisedFrom first ballot) = ⊥

-- the text is a list of fields that mean the record
pub record IsRecordText (text : List ℕ) (r : Record) : Type 0 where
  pub fields : List Field
  pub encodes : IsFields text fields
  pub means : MeansRecord (record_parts_of fields) r

-- ---- faults

abbrev pub SlotFault : Option ℕ → MessageFault → Type 0
SlotFault slot fault = Misfit (slot ≡ None) (IsAbove slot MAX_SLOT) fault

-- what is wrong with a field that a record of this kind has
pub data RecordBodyFault (p : RecordParts) (fault : MessageFault) : Type 0 where
  in_began : p.kind ≡ Some BEGAN → BallotFault p.round p.node fault → RecordBodyFault p fault
  in_promised : p.kind ≡ Some PROMISED → SlotFault p.slot fault ⊎ BallotFault p.round p.node fault → RecordBodyFault p fault
  in_accepted : p.kind ≡ Some ACCEPTED → SlotFault p.slot fault ⊎ BallotFault p.round p.node fault ⊎ ValueFault p.value fault
      → RecordBodyFault p fault
  in_promised_from : p.kind ≡ Some PROMISED_FROM → SlotFault p.slot fault ⊎ BallotFault p.round p.node fault → RecordBodyFault p fault

-- the kind is there, and none of the four
pub record IsUnknownRecordKind (p : RecordParts) : Type 0 where
  pub kind : ℕ
  pub is : p.kind ≡ Some kind
  pub unknown : (kind < BEGAN) ⊎ (PROMISED_FROM < kind)

-- what is wrong with fields that mean no record
abbrev pub RecordPartsFault : RecordParts → MessageFault → Type 0
RecordPartsFault p fault =
    ((fault ≡ Wire BadWireType) × (p.kind ≡ None)) ⊎ ((fault ≡ BadKind) × IsUnknownRecordKind p) ⊎ RecordBodyFault p fault

-- the fault stands in the text, or memory was refused
abbrev pub IsRecordFault : List ℕ → MessageFault → Type 0
IsRecordFault text fault =
    (fault ≡ OutOfMemory) ⊎ WireStands fault text
    ⊎ ((fields : List Field) × IsFields text fields × RecordPartsFault (record_parts_of fields) fault)

-- ---- the one written encoding

abbrev pub began_fields : List Field
began_fields = number_field KIND BEGAN ∷ []

abbrev pub slot_fields : ℕ → ℕ → List Field
slot_fields kind slot = number_field KIND kind ∷ number_field SLOT slot ∷ []

abbrev pub kept_ballot_fields : Ballot → List Field
kept_ballot_fields b = number_field ROUND b.round ∷ number_field NODE b.node ∷ []

abbrev pub kept_value_fields : Value → List Field
kept_value_fields v = record { number = VALUE; held = Bytes (value_bytes v) } ∷ []

-- all that a record says, by rising field numbers
abbrev pub record_fields : Record → List Field
record_fields (Began ballot) = began_fields ++ kept_ballot_fields ballot
record_fields (Promised slot ballot) = slot_fields PROMISED slot ++ kept_ballot_fields ballot
record_fields (Accepted slot acceptance) =
    slot_fields ACCEPTED slot ++ (kept_ballot_fields acceptance.ballot ++ kept_value_fields acceptance.value)
record_fields (PromisedFrom first ballot) = slot_fields PROMISED_FROM first ++ kept_ballot_fields ballot

-- the one encoding of a record: rising field numbers, shortest varints, defaults left out
unfoldable pub canonical_record : Record → List ℕ
canonical_record r = written (record_fields r)
