-- What putting messages into frames gives: a tool of the contracts of private functions.
use Rattle.std.specs.Prelude.{◌≡◌, ◌⊎◌, ℕ, List, Result, Ok, Err}
use Rattle.std.specs.List.{AllByRecursion}
use Rattle.table_types.specs.Valid.{FitsFrame}
use Rattle.call_protocol.specs.Texts.{messages_text}
use Rattle.call_protocol.specs.declared.refusal.CallRefusal.{CallRefusal}
use Rattle.call_protocol.specs.declared.refusal.CallRefusal.TheVariants as refusals
use Rattle.flight_calls.specs.declared.outgoing.Outgoing.{Outgoing}
use Rattle.flight_calls.specs.declared.outgoing.Outgoing.TheVariants.{Made, Shared}

-- the bytes of what goes out before the trailer
abbrev pub outgoing_text : Outgoing → List ℕ
outgoing_text (Made frames) = frames.items
outgoing_text (Shared answer) = answer

-- the frames of these messages, where a frame has room for each, and else that one is too long; or memory was refused
abbrev pub Frames : List (List ℕ) → Result Outgoing CallRefusal → Type 0
Frames messages (Ok outgoing) = AllByRecursion FitsFrame messages × (outgoing_text outgoing ≡ messages_text messages)
Frames messages (Err refusal) =
    ((refusal ≡ refusals.TooLarge) × (¬ AllByRecursion FitsFrame messages)) ⊎ (refusal ≡ refusals.OutOfMemory)
