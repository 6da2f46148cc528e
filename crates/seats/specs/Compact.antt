-- A node's own entry without what follows from the rest of it.
use Rattle.std.specs.Prelude.{◌≡◌, ℕ, Bool, false, Option, None, Some, List, [], length}
use Rattle.journal.specs.parts.ballots.specs.declared.message.Message.{Message}
use Rattle.journal.specs.parts.histories.specs.Event as told
use Rattle.journal.specs.parts.histories.specs.EventResult.{EventResult, Sent, Done}
use Rattle.journal.specs.parts.histories.specs.Owning.{OwnEntry}
use Rattle.journal.specs.parts.node_events.specs.declared.event.Event.TheVariants as event
use Rattle.seats.specs.declared.compact_entry.CompactStep.{CompactStep}
use Rattle.seats.specs.declared.compact_entry.CompactStep.TheVariants.{Put, Tick, Deliver, TickCut, DeliverCut, Restart}
use Rattle.seats.specs.declared.input.SeatInput.TheVariants as input
use Rattle.seats.specs.Entries.{done_entry, cut_entry, restart_entry}

-- the entry of this node of what it did
abbrev pub entry_in : ℕ → CompactStep → OwnEntry
entry_in me (Put upload sends) = done_entry me (input.Put upload) 0 sends.items
entry_in me (Tick left first sends) = done_entry me (input.Tick left) first sends.items
entry_in me (Deliver number message first sends) = done_entry me (input.Deliver number message) first sends.items
entry_in me (TickCut left) = cut_entry (event.TickCut me left) (input.Tick left)
entry_in me (DeliverCut number message) = cut_entry (event.DeliverCut me number) (input.Deliver number message)
entry_in me (Restart recovered) = restart_entry me recovered

-- the event was done, and these messages went out, numbered on from one
abbrev pub SendsFrom : EventResult → List Message → Type 0
SendsFrom given sends = (first : ℕ) × (given ≡ Sent first (length sends))

-- the event is of this node, and with it go what it gave, what it recovered, what it was handed and what it sent
abbrev pub Holds : ℕ → told.Event → EventResult → Bool → Option Message → List Message → Type 0
Holds me (told.Put node text) given recovered handed sends =
    (node ≡ me) × (given ≡ Done) × (recovered ≡ false) × (handed ≡ None)
Holds me (told.Tick node left) given recovered handed sends =
    (node ≡ me) × SendsFrom given sends × (recovered ≡ false) × (handed ≡ None)
Holds me (told.Deliver node number) given recovered handed sends =
    (node ≡ me) × SendsFrom given sends × (recovered ≡ false) × ((message : Message) × (handed ≡ Some message))
Holds me (told.TickCut node left) given recovered handed sends =
    (node ≡ me) × (given ≡ Done) × (recovered ≡ false) × (handed ≡ None) × (sends ≡ [])
Holds me (told.DeliverCut node number) given recovered handed sends =
    (node ≡ me) × (given ≡ Done) × (recovered ≡ false) × ((message : Message) × (handed ≡ Some message)) × (sends ≡ [])
Holds me (told.Restart node) given recovered handed sends = (node ≡ me) × (given ≡ Done) × (handed ≡ None) × (sends ≡ [])
Holds me (told.Get node table version) given recovered handed sends = ⊥
Holds me (told.Info node table) given recovered handed sends = ⊥
Holds me (told.Outcome node text) given recovered handed sends = ⊥

-- the entry is of something that this node did
abbrev pub IsDone : ℕ → OwnEntry → Type 0
IsDone me entry = Holds me entry.step.event entry.step.result entry.recovered entry.handed entry.sends
