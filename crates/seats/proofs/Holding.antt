-- What the node of a seat has, by the seat's own entries.
use Rattle.std.proofs.Common.{◌≡◌, Some, List}
use Rattle.journal.specs.parts.ballots.specs.declared.value.Value.{Value}
use Rattle.journal.specs.parts.table_types.specs.Uploads.{Upload}
use Rattle.journal.specs.parts.table_versions.specs.Values.{AreUploadsIn}
use Rattle.journal.specs.parts.table_versions.specs.State.{HasTaken}
use Rattle.node_core.specs.State.{NodeState}
use Rattle.seats.specs.State.{RunningSeat, IsLed, IsLedNode}
use Rattle.seats.proofs.Leading.{was_up}
use Rattle.seats.proofs.Told.{is_up, node_has}

-- its own entries leave it what it has
pub led_node : {S : Type 0} (seat : RunningSeat S) (node : NodeState) → IsLed seat → Some node ≡ seat.node.node → IsLedNode seat node
led_node seat node led is =
    let was = was_up seat led (is_up seat node is) in
    let has = (node_has seat node was.views is was.led.stands).0 in
    record {
      views = was.views;
      led = was.led;
      has = has;
      uploads = has.taken.uploads;
      are = record { values = has.values; prefix = has.prefix; are = has.taken.are };
    }

-- and its tables have taken the values of its prefix
pub has_taken : {S : Type 0} (seat : RunningSeat S) (node : NodeState) → IsLedNode seat node
    → (values : List Value) × (uploads : List Upload) × HasTaken node.tables values × AreUploadsIn values uploads
has_taken seat node led = (led.has.values, led.has.taken.uploads, led.has.taken, led.has.taken.are)
