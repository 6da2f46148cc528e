-- Reading a message from what its fields mean, with the fault that is met first: a tool of the proofs. What a text means is
-- defined in `Message`.
use Rattle.std.specs.Prelude.{◌≡◌, ◌⊎◌, ℕ, List, length, Option, Some, None, Result, Ok, Err, nat_lt, ◌==◌, if◌then◌else◌}
use Rattle.proto_fields.specs.declared.fault.WireFault.TheVariants.{BadWireType}
use Rattle.proto_fields.specs.Field.{Field, IsFields}
use Rattle.proto_fields.specs.Reading.{◌>>=◌}
use Rattle.ballots.specs.declared.node.TheConstants.{MAX_NODE}
use Rattle.ballots.specs.declared.slot.TheConstants.{MAX_SLOT}
use Rattle.ballots.specs.declared.ballot.TheConstants.{MAX_ROUND}
use Rattle.ballots.specs.declared.value.TheConstants.{MAX_UPLOAD_BYTES}
use Rattle.ballots.specs.declared.message.numbers.TheConstants.{PREPARE, PROMISE, NACK, ACCEPT, ACCEPTED, ASK, DECIDED}
use Rattle.ballots.specs.declared.value.Value.{Value}
use Rattle.ballots.specs.declared.value.Value.TheVariants.{Noop, Upload}
use Rattle.ballots.specs.declared.acceptance.Acceptance.{Acceptance}
use Rattle.ballots.specs.declared.message.Message.{Message}
use Rattle.ballots.specs.declared.message.Body.{Body}
use Rattle.ballots.specs.declared.message.Body.TheVariants.{Prepare, Promise, Nack, Accept, Accepted, Ask, Decided}
use Rattle.ballots.specs.declared.fault.MessageFault.{MessageFault}
use Rattle.ballots.specs.declared.fault.MessageFault.TheVariants.{Wire, BadKind, OutOfRange, OutOfMemory}
use Rattle.ballots.specs.Ballot.{Ballot}
use Rattle.ballots.specs.Message.{Parts, WireStands, message}

-- Memory was refused only where reading gives something that takes some; a fault that is told is the one that is met first.
abbrev pub Gives : {X : Type 0} → (X → Type 0) → Result X MessageFault → Result X MessageFault → Type 0
Gives TakesMemory (Ok x) read = read ≡ Ok x
Gives {X = X} TakesMemory (Err OutOfMemory) read = (x : X) × (read ≡ Ok x) × TakesMemory x
Gives TakesMemory (Err OutOfRange) read = read ≡ Err OutOfRange
Gives TakesMemory (Err BadKind) read = read ≡ Err BadKind
Gives TakesMemory (Err (Wire fault)) read = read ≡ Err (Wire fault)

-- for what takes no memory
abbrev pub TakesNone : {X : Type 0} → X → Type 0
TakesNone x = ⊥

-- this holds of every list of fields that the text is
abbrev pub OfFields : List ℕ → (List Field → Type 0) → Type 0
OfFields text P = (fields : List Field) → IsFields text fields → P fields

-- the text is a list of fields, or the call told why it is none
abbrev pub TellsFields : {X : Type 0} → List ℕ → Result X MessageFault → Type 0
TellsFields text (Ok x) = (fields : List Field) × IsFields text fields
TellsFields text (Err fault) = WireStands fault text ⊎ ((fields : List Field) × IsFields text fields)

unfoldable pub known : {A : Type 0} → Option A → Result A MessageFault
known None = Err (Wire BadWireType)
known (Some x) = Ok x

unfoldable pub within : ℕ → Option ℕ → Result ℕ MessageFault
within limit number = known number >>= λ n. if nat_lt limit n then Err OutOfRange else Ok n

unfoldable pub ballot_at : Option ℕ → Option ℕ → Result Ballot MessageFault
ballot_at round node = do
  r ← within MAX_ROUND round
  k ← within MAX_NODE node
  if r == 0 then Err OutOfRange else Ok (record { round = r; node = k })

unfoldable pub value_at : Option (List ℕ) → Result Value MessageFault
value_at bytes = known bytes >>= λ b.
    if length b == 0 then Ok Noop else if nat_lt MAX_UPLOAD_BYTES (length b) then Err OutOfRange else Ok (Upload b)

-- a ballot and a value that was accepted at it
unfoldable pub acceptance_at : Option ℕ → Option ℕ → Option (List ℕ) → Result Acceptance MessageFault
acceptance_at round node bytes = do
  b ← ballot_at round node
  v ← value_at bytes
  Ok (record { ballot = b; value = v })

unfoldable pub report_at : Parts → Result (Option Acceptance) MessageFault
report_at p = known p.second_round >>= λ round. if round == 0 then Ok None else
    (acceptance_at p.second_round p.second_node p.value >>= λ a. Ok (Some a))

-- ---- by kind

abbrev pub prepare_at : Parts → Result Body MessageFault
prepare_at p = ballot_at p.round p.node >>= λ b. Ok (Prepare b)

abbrev pub promise_at : Parts → Result Body MessageFault
promise_at p = ballot_at p.round p.node >>= λ b. report_at p >>= λ r. Ok (Promise b r)

abbrev pub nack_at : Parts → Result Body MessageFault
nack_at p = ballot_at p.round p.node >>= λ b. ballot_at p.second_round p.second_node >>= λ c. Ok (Nack b c)

abbrev pub accept_at : Parts → Result Body MessageFault
accept_at p = acceptance_at p.round p.node p.value >>= λ a. Ok (Accept a)

abbrev pub accepted_at : Parts → Result Body MessageFault
accepted_at p = acceptance_at p.round p.node p.value >>= λ a. Ok (Accepted a)

abbrev pub decided_at : Parts → Result Body MessageFault
decided_at p = value_at p.value >>= λ v. Ok (Decided v)

unfoldable pub body_at : ℕ → Parts → Result Body MessageFault
body_at kind p =
    if kind == PREPARE then prepare_at p
    else if kind == PROMISE then promise_at p
    else if kind == NACK then nack_at p
    else if kind == ACCEPT then accept_at p
    else if kind == ACCEPTED then accepted_at p
    else if kind == ASK then Ok Ask
    else if kind == DECIDED then decided_at p
    else Err BadKind

-- the head is read first, and then what its kind has
unfoldable pub message_at : Parts → Result Message MessageFault
message_at p = do
  kind ← known p.kind
  sender ← within MAX_NODE p.sender
  slot ← within MAX_SLOT p.slot
  body ← body_at kind p
  Ok (message sender slot body)
