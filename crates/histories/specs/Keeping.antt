-- The records that a node kept, told from what it sent and from where it went down: Lamport, "Paxos Made Simple", section
-- 2.5, where an acceptor records what it answers before it answers. A node that starts again has them back.
use Rattle.std.specs.Prelude.{◌≡◌, ◌&&◌, Bool, true, false, if◌then◌else◌, Option, None, Some, List, [], ◌∷◌, ◌++◌, filter_map}
use Rattle.ballots.specs.declared.message.Message.{Message}
use Rattle.ballots.specs.declared.record.Record.{Record}
use Rattle.agreement_rules.specs.Views.{AgreementConfig}
use Rattle.agreement_rules.specs.Due.{TickKeeps, MessageKeeps}
use Rattle.agreement_rules.specs.Keeping.{record_of}
use Rattle.histories.specs.Event.{Event, is_restart}
use Rattle.histories.specs.Event as event
use Rattle.histories.specs.EventResult.{is_done}
use Rattle.histories.specs.History.{Step}
use Rattle.histories.specs.Following.{UpOrDown, IsUp, IsDown}
use Rattle.histories.specs.Owning.{OwnEntry, Leads}

-- the node was started again
abbrev pub restarts : Step → Bool
restarts step = is_restart step.event && is_done step.result

-- the next of these entries that starts the node again recovers the record that was due before it
abbrev pub is_recovered : List OwnEntry → Bool
is_recovered [] = false
is_recovered (entry ∷ entries) = if restarts entry.step then entry.recovered else is_recovered entries

-- The record that was due where a node that was so went down: in a cut tick, or in a cut delivery of the message that it was
-- handed. No other event leaves a record in doubt.
abbrev pub IsDueAtCut : AgreementConfig → UpOrDown → Event → Option Message → Option Record → Type 0
IsDueAtCut config (IsDown records due) e handed kept = kept ≡ None
IsDueAtCut config (IsUp views) (event.TickCut node left) handed kept = TickKeeps config node views left kept
IsDueAtCut config (IsUp views) (event.DeliverCut node number) None kept = kept ≡ None
IsDueAtCut config (IsUp views) (event.DeliverCut node number) (Some m) kept = MessageKeeps config views m kept
IsDueAtCut config (IsUp views) (event.Put node text) handed kept = kept ≡ None
IsDueAtCut config (IsUp views) (event.Tick node left) handed kept = kept ≡ None
IsDueAtCut config (IsUp views) (event.Deliver node number) handed kept = kept ≡ None
IsDueAtCut config (IsUp views) (event.Restart node) handed kept = kept ≡ None
IsDueAtCut config (IsUp views) (event.Get node table version) handed kept = kept ≡ None
IsDueAtCut config (IsUp views) (event.Info node table) handed kept = kept ≡ None
IsDueAtCut config (IsUp views) (event.Outcome node text) handed kept = kept ≡ None

-- the record, where it is recovered
abbrev pub if_recovered : Bool → Option Record → List Record
if_recovered recovered None = []
if_recovered true (Some due) = due ∷ []
if_recovered false (Some due) = []

-- The records that these entries made a node keep that was so, in order: that of each message that it sent, as it stands on
-- a record, and that of each cut, where the restart behind the cut recovered it.
abbrev pub AreKept : AgreementConfig → UpOrDown → List OwnEntry → List Record → Type 0
AreKept config seat [] records = records ≡ []
AreKept config seat (entry ∷ entries) records =
    (after : UpOrDown) × (due : Option Record) × (more : List Record)
    × Leads config seat entry after
    × IsDueAtCut config seat entry.step.event entry.handed due
    × AreKept config after entries more
    × (records ≡ filter_map record_of entry.sends ++ (if_recovered (is_recovered entries) due ++ more))

-- the records that a node has, but for one that was due where it went down
abbrev pub records_in : UpOrDown → List Record
records_in (IsUp views) = views.records
records_in (IsDown records due) = records
