-- A message that the journal holds was sent.
use Rattle.std.proofs.Common.{◌≡◌, Bool, true, false, if◌then◌else◌, Option, None, Some, nat_lt, slice_get}
use Rattle.journal.specs.parts.ballots.specs.declared.message.Message.{Message}
use Rattle.journal.specs.Journaled.{Journaled}
use Rattle.seats.specs.declared.input.SeatInput.{SeatInput}
use Rattle.seats.specs.declared.input.SeatInput.TheVariants.{Put, Tick, Deliver}
use Rattle.seats.specs.Inputs.{IsSentIn, IsHeldIn}

none_is_some : (message : Message) → None ≡ Some message → ⊥
none_is_some message is = cc

found_held : (gone : Bool) (found : Option Message) (message : Message) → (if gone then None else found) ≡ Some message → found ≡ Some message
found_held true found message is = absurd (none_is_some message is)
found_held false found message is = is

pub held_sent : (journal : Journaled) (input : SeatInput) → IsHeldIn journal input → IsSentIn journal.trace.sent input
held_sent journal (Put upload) held = tt
held_sent journal (Tick left) held = tt
held_sent journal (Deliver number message) held = found_held (nat_lt number journal.forgotten) (slice_get journal.trace.sent number) message held
