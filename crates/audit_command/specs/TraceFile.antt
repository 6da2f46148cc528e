-- What a file that tells a recorded run means: JSON (RFC 8259) whose texts are messages in hexadecimal (RFC 4648, section 8).
use Rattle.std.specs.Prelude.{◌≡◌, ◌≢◌, ℕ, Bool, true, false, List, [], ◌∷◌, codes, Option, Some, option_and_then, Result, Ok, Err, IsUtf8}
use Rattle.std.specs.List.{AllZip}
use Rattle.std.specs.Io.KnownBytes.{Keeps, Appends}
use Rattle.serde_json.specs.Data.{Data, Items, no_items, item}
use Rattle.serde_json.specs.Read.{read as read_text}
use Rattle.serde_json.specs.Find.{get, as_number, as_u64, as_str, as_array}
use Rattle.hex.specs.Hex.{decode_of}
use Rattle.grpc_frames.specs.FrameFaults.{IsBeginning}
use Rattle.ballots.specs.Majority.{IsMembers}
use Rattle.ballots.specs.declared.message.Message.{Message}
use Rattle.ballots.specs.Message.{IsMessageText}
use Rattle.lawful_histories.specs.Lawful.{IsLawful}
use Rattle.audit_command.specs.declared.judging.AuditFault.{AuditFault}
use Rattle.audit_command.specs.declared.judging.AuditFault.TheVariants.{BadTrace, OutOfMemory, Io}

-- the items of an array, as a list
abbrev pub listed : Items → List Data
listed no_items = []
listed (item d ds) = d ∷ listed ds

-- these digits, two a byte and in either case, are the bytes of the message
pub record IsMessageHex (digits : List ℕ) (m : Message) : Type 0 where
  pub bytes : List ℕ
  pub decoded : decode_of digits ≡ Ok bytes
  pub means : IsMessageText bytes m

-- it is a text of such digits
pub record SpellsMessage (d : Data) (m : Message) : Type 0 where
  pub digits : List ℕ
  pub is_text : as_str d ≡ Some digits
  pub spelled : IsMessageHex digits m

-- the whole number at `members` of an object, and the array at `sent`
abbrev pub members_at : Data → Option ℕ
members_at d = option_and_then as_u64 (option_and_then as_number (get (codes "members") d))

abbrev pub sent_at : Data → Option Items
sent_at d = option_and_then as_array (get (codes "sent") d)

-- The file is an object with so many members, and these messages in their order. What else the object has means nothing.
pub record MeansTrace (file : List ℕ) (members : ℕ) (sent : List Message) : Type 0 where
  pub is_text : IsUtf8 file
  pub value : Data
  pub read : read_text file ≡ Some value
  pub count : members_at value ≡ Some members
  pub within : IsMembers members
  pub items : Items
  pub listed_at : sent_at value ≡ Some items
  pub messages : AllZip SpellsMessage (listed items) sent

-- ---- what an audit says of a file

-- it means a history that correct nodes may have sent
pub record MeansLawful (file : List ℕ) : Type 0 where
  pub members : ℕ
  pub sent : List Message
  pub means : MeansTrace file members sent
  pub lawful : IsLawful members sent

-- it means a history with a message that no correct node sends there
pub record MeansUnlawful (file : List ℕ) : Type 0 where
  pub members : ℕ
  pub sent : List Message
  pub means : MeansTrace file members sent
  pub unlawful : IsLawful members sent → ⊥

-- it means none
abbrev pub MeansNothing : List ℕ → Type 0
MeansNothing file = (members : ℕ) (sent : List Message) → MeansTrace file members sent → ⊥

-- so the file is judged: `true` for lawful
abbrev pub Judges : Result Bool AuditFault → List ℕ → Type 0
Judges (Ok true) file = MeansLawful file
Judges (Ok false) file = MeansUnlawful file
Judges (Err BadTrace) file = MeansNothing file
Judges (Err OutOfMemory) file = IsUtf8 file
Judges (Err Io) file = (members : ℕ) × (sent : List Message) × MeansTrace file members sent

-- the line that tells a judgement
abbrev pub judgement_line : Bool → List ℕ
judgement_line true = codes "lawful\n"
judgement_line false = codes "unlawful\n"

-- A write failed: what went out is a beginning of the line of this file's own judgement.
pub record TellsInPart (file : List ℕ) (old new : Option (List ℕ)) : Type 0 where
  pub lawful : Bool
  pub judges : Judges (Ok lawful) file
  pub written : List ℕ
  pub beginning : IsBeginning written (judgement_line lawful)
  pub out : Appends old new written

-- this is what the judgement of the file adds to what its writer holds
abbrev pub Tells : List ℕ → Result Bool AuditFault → Option (List ℕ) → Option (List ℕ) → Type 0
Tells file (Ok lawful) old new = Appends old new (judgement_line lawful)
Tells file (Err BadTrace) old new = Keeps old new
Tells file (Err OutOfMemory) old new = Keeps old new
Tells file (Err Io) old new = TellsInPart file old new

-- a fault is said, and a judgement is not
abbrev pub KeepsUnlessFault : Result Bool AuditFault → Option (List ℕ) → Option (List ℕ) → Type 0
KeepsUnlessFault (Ok lawful) old new = Keeps old new
KeepsUnlessFault (Err fault) old new = Unit {0}

-- An audit that ends with status 1: the file is judged unlawful, or there is a fault.
pub record AuditFails (file : List ℕ) (old new said_old said_new : Option (List ℕ)) : Type 0 where
  pub outcome : Result Bool AuditFault
  pub not_lawful : outcome ≢ Ok true
  pub judges : Judges outcome file
  pub tells : Tells file outcome old new
  pub says : KeepsUnlessFault outcome said_old said_new
