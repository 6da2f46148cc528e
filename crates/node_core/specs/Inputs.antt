-- What comes to a node, as the definitions of what is due have it.
use Rattle.agreement_rules.specs.Due as due
use Rattle.histories.specs.Due as owed
use Rattle.agreement.specs.declared.refusal.Refusal as refusal
use Rattle.agreement.specs.declared.refusal.Refusal.TheVariants.{OutOfRange, SlotsSpent, RoundsSpent, OutOfMemory}
use Rattle.node_core.specs.declared.input.Input as input
use Rattle.node_core.specs.declared.input.Input.TheVariants.{Put, Tick, Deliver}

abbrev pub input_of : input.Input → owed.Input
input_of (Put upload) = owed.Put upload
input_of (Tick left) = owed.Tick left
input_of (Deliver message) = owed.Deliver message

abbrev pub refusal_of : refusal.Refusal → due.Refusal
refusal_of OutOfRange = due.OutOfRange
refusal_of SlotsSpent = due.SlotsSpent
refusal_of RoundsSpent = due.RoundsSpent
refusal_of OutOfMemory = due.OutOfMemory
