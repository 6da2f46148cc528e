-- What can happen: one event of one node. A message is lost where it is never delivered; it is repeated and overtaken where
-- deliveries name messages as they like.
use Rattle.std.specs.Prelude.{ℕ, Bool, true, false, List}

pub data Event : Type 0 where
  -- a client hands the node an upload, which is told by its encoding
  Put : ℕ → List ℕ → Event
  -- time passes at the node
  Tick : ℕ → ℕ → Event
  -- the node is handed a message, by its number in the order of sending
  Deliver : ℕ → ℕ → Event
  -- the node goes down in the midst of a tick, or of a delivery: behind its record, if one was due, and before all else
  TickCut : ℕ → ℕ → Event
  DeliverCut : ℕ → ℕ → Event
  -- the node starts again with the records that it kept
  Restart : ℕ → Event
  -- a client asks the node for a version of a table
  Get : ℕ → (table : List ℕ) → (version : ℕ) → Event
  -- a client asks the node for the latest version of a table
  Info : ℕ → List ℕ → Event
  -- a client asks the node what has become of an upload
  Outcome : ℕ → List ℕ → Event

-- of which node it is
abbrev pub node_of : Event → ℕ
node_of (Put node text) = node
node_of (Tick node left) = node
node_of (Deliver node number) = node
node_of (TickCut node left) = node
node_of (DeliverCut node number) = node
node_of (Restart node) = node
node_of (Get node table version) = node
node_of (Info node table) = node
node_of (Outcome node text) = node

-- it asks the node to start again
abbrev pub is_restart : Event → Bool
is_restart (Put node text) = false
is_restart (Tick node left) = false
is_restart (Deliver node number) = false
is_restart (TickCut node left) = false
is_restart (DeliverCut node number) = false
is_restart (Restart node) = true
is_restart (Get node table version) = false
is_restart (Info node table) = false
is_restart (Outcome node text) = false
