-- What is wrong with a file that tells no recorded run, in the order in which it is looked at.
use Rattle.std.specs.Prelude.{◌≡◌, ◌≢◌, ℕ, ◌<◌, List, length, take, get_or, Some, None, Ok, IsUtf8}
use Rattle.std.specs.List.{AllZip}
use Rattle.serde_json.specs.Data.{Data, Items}
use Rattle.serde_json.specs.Read.{read as read_text}
use Rattle.serde_json.specs.Find.{as_str}
use Rattle.hex.specs.Hex.{decode_of}
use Rattle.ballots.specs.Majority.{IsMembers}
use Rattle.ballots.specs.declared.message.Message.{Message as Sent}
use Rattle.ballots.specs.declared.fault.MessageFault.TheVariants as faults
use Rattle.ballots.specs.Message.{IsFaultOf}
use Rattle.audit_command.specs.TraceFile.{SpellsMessage, listed, members_at, sent_at}
use Rattle.audit_command.specs.declared.trace_file.MessageFlaw.{MessageFlaw}
use Rattle.audit_command.specs.declared.trace_file.MessageFlaw.TheVariants.{NotText, NotHexadecimal, NoMessage}
use Rattle.audit_command.specs.declared.trace_file.TraceFlaw.{TraceFlaw}
use Rattle.audit_command.specs.declared.trace_file.TraceFlaw.TheVariants.{NotUtf8, NotJson, Members, Sent as NoSent, Message}
use Rattle.audit_command.specs.declared.trace_file.TraceFault.{TraceFault}
use Rattle.audit_command.specs.declared.trace_file.TraceFault.TheVariants.{BadTrace, OutOfMemory}

-- these digits spell no message
abbrev pub IsDigitsFlaw : MessageFlaw → List ℕ → Type 0
IsDigitsFlaw NotText digits = ⊥
IsDigitsFlaw NotHexadecimal digits = (bytes : List ℕ) → decode_of digits ≡ Ok bytes → ⊥
IsDigitsFlaw (NoMessage fault) digits = (bytes : List ℕ) × (decode_of digits ≡ Ok bytes) × IsFaultOf bytes fault × (fault ≢ faults.OutOfMemory)

-- this value is no text, or a text of such digits
abbrev pub IsMessageFlaw : MessageFlaw → Data → Type 0
IsMessageFlaw NotText d = as_str d ≡ None
IsMessageFlaw NotHexadecimal d = (digits : List ℕ) × (as_str d ≡ Some digits) × IsDigitsFlaw NotHexadecimal digits
IsMessageFlaw (NoMessage fault) d = (digits : List ℕ) × (as_str d ≡ Some digits) × IsDigitsFlaw (NoMessage fault) digits

-- the items before that place spell messages, and this is wrong with the one in that place
pub record IsFirstFlaw (items : List Data) (place : ℕ) (flaw : MessageFlaw) : Type 0 where
  pub within : place < length items
  pub sent : List Sent
  pub before : AllZip SpellsMessage (take place items) sent
  pub here : (d : Data) → IsMessageFlaw flaw (get_or items place d)

-- this is the first thing that is wrong with the file
abbrev pub IsFlaw : TraceFlaw → List ℕ → Type 0
IsFlaw NotUtf8 file = IsUtf8 file → ⊥
IsFlaw NotJson file = read_text file ≡ None
IsFlaw Members file = (value : Data) × (read_text file ≡ Some value) × ((members : ℕ) → members_at value ≡ Some members → IsMembers members → ⊥)
IsFlaw NoSent file = (value : Data) × (read_text file ≡ Some value) × (sent_at value ≡ None)
IsFlaw (Message place flaw) file =
    (value : Data) × (read_text file ≡ Some value) × ((items : Items) × (sent_at value ≡ Some items) × IsFirstFlaw (listed items) place flaw)

-- and so it is told
abbrev pub TellsFlaw : TraceFault → List ℕ → Type 0
TellsFlaw (BadTrace flaw) file = IsFlaw flaw file
TellsFlaw OutOfMemory file = Unit {0}

-- ---- step by step

-- a fault of the file as one JSON value
abbrev pub IsValueFault : TraceFault → List ℕ → Type 0
IsValueFault (BadTrace NotUtf8) file = IsUtf8 file → ⊥
IsValueFault (BadTrace NotJson) file = read_text file ≡ None
IsValueFault (BadTrace other) file = ⊥
IsValueFault OutOfMemory file = Unit {0}

-- a fault of one item
abbrev pub IsItemFault : TraceFault → ℕ → Data → Type 0
IsItemFault (BadTrace (Message at flaw)) place d = (at ≡ place) × IsMessageFlaw flaw d
IsItemFault (BadTrace other) place d = ⊥
IsItemFault OutOfMemory place d = Unit {0}

abbrev pub IsDigitsFault : TraceFault → ℕ → List ℕ → Type 0
IsDigitsFault (BadTrace (Message at flaw)) place digits = (at ≡ place) × IsDigitsFlaw flaw digits
IsDigitsFault (BadTrace other) place digits = ⊥
IsDigitsFault OutOfMemory place digits = Unit {0}

-- a fault of the items
abbrev pub IsItemsFault : TraceFault → List Data → Type 0
IsItemsFault (BadTrace (Message place flaw)) items = IsFirstFlaw items place flaw
IsItemsFault (BadTrace other) items = ⊥
IsItemsFault OutOfMemory items = Unit {0}
