-- A run slot by slot: a message keeps the rules after all messages exactly where it does after those of its slot.
use Rattle.std.specs.Prelude.{◌≡◌, ◌↔◌, ◌==◌, ℕ, List, [], ◌∷◌, ◌++◌, nat_eq, unwrap_or}
use Rattle.std.specs.List.{filter}
use Rattle.std.specs.Map.{lookup}
use Rattle.ballots.specs.Slots.{SetsSlot}
use Rattle.ballots.specs.declared.message.Message.{Message}
use Rattle.lawful_histories.specs.Lawful.{IsLawful}
use Rattle.run_breaches.specs.Rules.{Keeps}

-- the messages of the slot, in their order
abbrev pub of_slot : ℕ → List Message → List Message
of_slot s sent = filter (λ m. m.slot == s) sent

-- Messages of other slots have no part in what a message may be.
abbrev pub SlotsAreApart : Type 0
SlotsAreApart = (n : ℕ) (before : List Message) (m : Message) → (Keeps n (of_slot m.slot before) m ↔ Keeps n before m)

-- ---- an index by slot

-- the messages that it has of a slot
abbrev pub messages_at : List (ℕ × List Message) → ℕ → List Message
messages_at slots s = unwrap_or (lookup (nat_eq s) slots) []

-- it has these messages, each with those of its slot
abbrev pub Indexes : List (ℕ × List Message) → List Message → Type 0
Indexes slots sent = (s : ℕ) → messages_at slots s ≡ of_slot s sent

-- the messages of each slot are lawful by themselves
abbrev pub IsLawfulBySlot : ℕ → List Message → Type 0
IsLawfulBySlot n sent = (s : ℕ) → IsLawful n (of_slot s sent)

-- the message joins those of its slot
abbrev pub Joins : List (ℕ × List Message) → List (ℕ × List Message) → Message → Type 0
Joins old new m = SetsSlot (messages_at old) (messages_at new) m.slot (messages_at old m.slot ++ m ∷ [])
