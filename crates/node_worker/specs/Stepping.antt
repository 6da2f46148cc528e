-- What a worker does in one step. Workers are this service's own; that a node keeps its records before its messages go out,
-- and what it sends, is what the calls of its workplace promise.
use Rattle.std.specs.Prelude.{◌≡◌, ℕ, ◌+◌, ◌-◌, ◌⊎◌, Bool, true, false, nat_lt, Option, Some, None, Result, Ok, Err, List, [], ◌∷◌, ◌++◌}
use Rattle.ballots.specs.declared.message.Message.{Message}
use Rattle.stable_records.specs.declared.fault.StoreFault.TheVariants.{Damaged}
use Rattle.node_worker.specs.declared.workplace.Note.{Note}
use Rattle.node_worker.specs.declared.workplace.Note.TheVariants as note
use Rattle.node_worker.specs.declared.workplace.WorkInput.{WorkInput as Inputs}
use Rattle.node_worker.specs.declared.workplace.WorkInput.TheVariants as inputs
use Rattle.node_worker.specs.declared.workplace.Sent.{Sent}
use Rattle.node_worker.specs.declared.workplace.WorkplaceFault.{WorkplaceFault}
use Rattle.node_worker.specs.declared.workplace.WorkplaceFault.TheVariants as fault
use Rattle.node_worker.specs.declared.workplace.End.{End}
use Rattle.node_worker.specs.declared.workplace.End.TheVariants as ending
use Rattle.node_worker.specs.declared.workplace.PutId.{PutId}
use Rattle.node_worker.specs.declared.stepping.Next.{Next}
use Rattle.node_worker.specs.declared.stepping.Next.TheVariants as next
use Rattle.node_worker.specs.Paces.{Happening, Came, Acted, Ticked, is_due, left_after}
use Rattle.node_worker.specs.Deeds.{Deed, Read, Handed, Told, Counted, Found, Entered, Answered, Looked, ForEach}

-- ---- messages that went out

-- the workers of all nodes are told of the message of this number, and no others are
abbrev pub TellsEach : {T : Type 0} → ℕ → ℕ → List (Deed T) → Type 0
TellsEach nodes number deeds = ForEach (λ node own. own ≡ Told node number ∷ []) nodes deeds

-- of each of these messages
abbrev pub TellsAll : {T : Type 0} → ℕ → Sent → List (Deed T) → Type 0
TellsAll nodes sent deeds = ForEach (λ k own. TellsEach nodes (sent.first + k) own) (sent.next - sent.first) deeds

-- ---- faults

-- How the puts that wait end where their node met this fault; not at all where its later inputs need not meet it too.
abbrev pub end_for : WorkplaceFault → Option End
end_for fault.Down = Some ending.Down
end_for fault.Strange = Some (ending.Store Damaged)
end_for fault.JournalFull = Some ending.JournalFull
end_for fault.NotSent = None
end_for fault.OutOfRange = None
end_for fault.SlotsSpent = Some ending.SlotsSpent
end_for fault.RoundsSpent = Some ending.RoundsSpent
end_for fault.OutOfMemory = None
end_for (fault.Store why) = Some (ending.Store why)
end_for fault.Lost = Some (ending.Store Damaged)

-- whatever put waits at this place ends so
abbrev pub EndsAt : {T : Type 0} → End → ℕ → List (Deed T) → Type 0
EndsAt end place deeds =
    (deeds ≡ Found place None ∷ [])
    ⊎ ((put : PutId) × (deeds ≡ Found place (Some put) ∷ Answered put (Err end) ∷ []))

-- all puts that wait at the node end so, and at each place it was looked
abbrev pub EndsEach : {T : Type 0} → End → List (Deed T) → Type 0
EndsEach {T} end deeds = (places : ℕ) × (rest : List (Deed T)) × (deeds ≡ Counted places ∷ rest) × ForEach (EndsAt end) places rest

abbrev pub EndsFor : {T : Type 0} → Option End → List (Deed T) → Type 0
EndsFor None deeds = deeds ≡ []
EndsFor (Some end) deeds = EndsEach end deeds

-- ---- puts that wait

abbrev pub EndsPut : {T : Type 0} → PutId → Option End → List (Deed T) → Type 0
EndsPut put None deeds = deeds ≡ []
EndsPut put (Some end) deeds = deeds ≡ Answered put (Err end) ∷ []

-- A put is answered what was entered for it, or the fault that was met, and not at all where nothing is known of it.
abbrev pub AnswersAs : {T : Type 0} → PutId → Result (Option T) WorkplaceFault → List (Deed T) → Type 0
AnswersAs put (Ok (Some told)) deeds = deeds ≡ Answered put (Ok told) ∷ []
AnswersAs put (Ok None) deeds = deeds ≡ []
AnswersAs put (Err why) deeds = EndsPut put (end_for why) deeds

abbrev pub Settles : {T : Type 0} → PutId → List (Deed T) → Type 0
Settles {T} put deeds =
    (known : Result (Option T) WorkplaceFault) × (rest : List (Deed T)) × (deeds ≡ Entered put known ∷ rest) × AnswersAs put known rest

abbrev pub LooksAt : {T : Type 0} → ℕ → List (Deed T) → Type 0
LooksAt {T} place deeds =
    (deeds ≡ Found place None ∷ [])
    ⊎ ((put : PutId) × (rest : List (Deed T)) × (deeds ≡ Found place (Some put) ∷ rest) × Settles put rest)

-- so it is with each put that waits at the node
abbrev pub LooksAtEach : {T : Type 0} → List (Deed T) → Type 0
LooksAtEach {T} deeds = (places : ℕ) × (rest : List (Deed T)) × (deeds ≡ Counted places ∷ rest) × ForEach LooksAt places rest

-- ---- inputs

-- what goes out is told to all, and a fault ends the puts that it ends
abbrev pub AfterHanding : {T : Type 0} → ℕ → Result Sent WorkplaceFault → Option Sent → List (Deed T) → Type 0
AfterHanding nodes (Ok sent) told deeds = (told ≡ Some sent) × TellsAll nodes sent deeds
AfterHanding nodes (Err why) told deeds = (told ≡ None) × EndsFor (end_for why) deeds

abbrev pub Hands : {T : Type 0} → ℕ → Inputs → Option Sent → List (Deed T) → Type 0
Hands {T} nodes input told deeds =
    (gave : Result Sent WorkplaceFault) × (rest : List (Deed T)) × (deeds ≡ Handed input gave ∷ rest) × AfterHanding nodes gave told rest

-- the node is handed just the message of this number, if it could be read
abbrev pub Hears : {T : Type 0} → ℕ → ℕ → List Happening → List (Deed T) → List Happening → Type 0
Hears {T} nodes number happened deeds after =
    ((deeds ≡ Read number None ∷ []) × (after ≡ happened))
    ⊎ ((message : Message) × (told : Option Sent) × (rest : List (Deed T)) × (deeds ≡ Read number (Some message) ∷ rest)
    × Hands nodes (inputs.Deliver number message) told rest × (after ≡ Came message ∷ happened))

-- of what went out the first is read, if anything did
abbrev pub ReadsIf : {T : Type 0} → Bool → ℕ → Option Message → List (Deed T) → Type 0
ReadsIf true number message deeds = deeds ≡ Read number message ∷ []
ReadsIf false number message deeds = (deeds ≡ []) × (message ≡ None)

abbrev pub ReadsFirst : {T : Type 0} → Option Sent → Option Message → List (Deed T) → Type 0
ReadsFirst None message deeds = (deeds ≡ []) × (message ≡ None)
ReadsFirst (Some sent) message deeds = ReadsIf (nat_lt sent.first sent.next) sent.first message deeds

-- a tick is handed to the node
abbrev pub Gives : {T : Type 0} → ℕ → ℕ → ℕ → List Happening → List (Deed T) → List Happening → Type 0
Gives {T} nodes me members happened deeds after =
    (told : Option Sent) × (message : Option Message) × (handed : List (Deed T)) × (seen : List (Deed T)) × (deeds ≡ handed ++ seen)
    × Hands nodes (inputs.Tick (left_after me members happened)) told handed × ReadsFirst told message seen
    × (after ≡ Ticked message ∷ happened)

-- ---- a step

-- what comes of what was heard
abbrev pub Heeds : {T : Type 0} → ℕ → Option Note → List Happening → Next → List (Deed T) → List Happening → Type 0
Heeds nodes None happened goes deeds after = (goes ≡ next.Wait) × (deeds ≡ []) × (after ≡ happened)
Heeds nodes (Some (note.Message number)) happened goes deeds after = (goes ≡ next.Wait) × Hears nodes number happened deeds after
Heeds nodes (Some note.Look) happened goes deeds after = (goes ≡ next.Wait) × (deeds ≡ []) × (after ≡ Acted ∷ happened)
Heeds nodes (Some note.Stop) happened goes deeds after = (goes ≡ next.End) × EndsEach ending.Down deeds × (after ≡ happened)

abbrev pub TicksIf : {T : Type 0} → Bool → ℕ → ℕ → ℕ → List Happening → List (Deed T) → List Happening → Type 0
TicksIf false nodes me members happened deeds after = (deeds ≡ []) × (after ≡ happened)
TicksIf {T} true nodes me members happened deeds after =
    (given : List (Deed T)) × (looked : List (Deed T)) × (deeds ≡ given ++ looked)
    × Gives nodes me members happened given after × LooksAtEach looked

-- a tick is given exactly where one is due, and then it is looked at the puts again
abbrev pub TicksWhereDue : {T : Type 0} → ℕ → ℕ → ℕ → List Happening → List (Deed T) → List Happening → Type 0
TicksWhereDue {T} nodes me members happened deeds after =
    (waits : Bool) × (rest : List (Deed T)) × (deeds ≡ Looked waits ∷ rest)
    × TicksIf (is_due members happened waits) nodes me members happened rest after

abbrev pub GoesOn : {T : Type 0} → Next → ℕ → ℕ → ℕ → List Happening → List (Deed T) → List Happening → Type 0
GoesOn next.End nodes me members happened deeds after = (deeds ≡ []) × (after ≡ happened)
GoesOn {T} next.Wait nodes me members happened deeds after =
    (looked : List (Deed T)) × (ticked : List (Deed T)) × (deeds ≡ looked ++ ticked)
    × LooksAtEach looked × TicksWhereDue nodes me members happened ticked after

-- What was heard comes first, then it is looked at the puts, then a tick is given where one is due.
abbrev pub Steps : {T : Type 0} → ℕ → ℕ → ℕ → Option Note → List Happening → Next → List (Deed T) → List Happening → Type 0
Steps {T} nodes me members heard happened goes deeds after =
    (between : List Happening) × (first : List (Deed T)) × (rest : List (Deed T)) × (deeds ≡ first ++ rest)
    × Heeds nodes heard happened goes first between × GoesOn goes nodes me members between rest after
