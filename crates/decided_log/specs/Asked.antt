-- What is answered to a node that asks for what is decided from a slot on: Lamport, "Paxos Made Simple", section 2.3,
-- where learners tell learners what was chosen.
use Rattle.std.specs.Prelude.{ℕ, suc, List, [], ◌∷◌, take, drop}
use Rattle.ballots.specs.declared.value.Value.{Value}
use Rattle.ballots.specs.declared.message.Message.{Message}
use Rattle.ballots.specs.declared.message.Body.TheVariants.{Decided}
use Rattle.ballots.specs.Message.{message}

-- the most messages of one answer
abbrev pub max_asked : ℕ
max_asked = 16

-- the node's message that the slot has the value
abbrev pub decided_message : ℕ → ℕ → Value → Message
decided_message node slot value = message node slot (Decided value)

-- one message of the node for each of these values, the first for this slot, the next for the next
abbrev pub decided_messages : ℕ → ℕ → List Value → List Message
decided_messages node slot [] = []
decided_messages node slot (value ∷ values) = decided_message node slot value ∷ decided_messages node (suc slot) values

-- those of the values from the slot on, the first ones up to the limit
abbrev pub asked_of : ℕ → List Value → ℕ → List Message
asked_of node prefix from = decided_messages node from (take max_asked (drop from prefix))
