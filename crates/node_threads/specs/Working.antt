-- What a node's worker may rely on at its workplace. Workers are this service's own.
use Rattle.std.specs.Prelude.{◌≡◌, ℕ, Some, None, Ok, Err}
use Rattle.seats.specs.journal.specs.declared.receipt.Receipt.{Receipt}
use Rattle.seats.specs.declared.input.SeatInput.{SeatInput}
use Rattle.seats.specs.declared.input.SeatInput.TheVariants as seat
use Rattle.node_worker.specs.declared.workplace.WorkInput.{WorkInput as Input}
use Rattle.node_worker.specs.declared.workplace.WorkInput.TheVariants as worker
use Rattle.node_worker.specs.declared.workplace.Sent.{Sent}
use Rattle.node_worker.specs.Deeds.{Deed, Read, Handed, Told, Counted, Found, Entered, Answered, Looked}
use Rattle.node_threads.specs.Told.{IsTold, Settling, IsOfTables}

-- a worker's input, as a seat takes it
abbrev pub seat_input : Input → SeatInput
seat_input (worker.Deliver number message) = seat.Deliver number message
seat_input (worker.Tick left) = seat.Tick left

-- the node took this input: of its entry there is a receipt, which tells just these messages
abbrev pub IsHanded : Input → Sent → Type 0
IsHanded input sent =
    (receipt : Receipt) × (node : ℕ) × IsTold node (seat_input input) (record { receipt = receipt; sent = record { start = sent.first; end = sent.next } })

-- An input that a node took has an entry, with just the messages that went out; a put is found at its place; and an outcome is
-- that of some tables. Of all else nothing is claimed: what another thread did meanwhile no contract says.
abbrev pub IsDone : Deed Settling → Type 0
IsDone (Read number message) = Unit {0}
IsDone (Handed input (Ok sent)) = IsHanded input sent
IsDone (Handed input (Err why)) = Unit {0}
IsDone (Told node number) = Unit {0}
IsDone (Counted places) = Unit {0}
IsDone (Found place None) = Unit {0}
IsDone (Found place (Some put)) = put.place ≡ place
IsDone (Entered put (Ok (Some settled))) = IsOfTables settled
IsDone (Entered put (Ok None)) = Unit {0}
IsDone (Entered put (Err why)) = Unit {0}
IsDone (Answered put ending) = Unit {0}
IsDone (Looked waits) = Unit {0}
