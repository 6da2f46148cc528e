-- The faults of seats and of workers. Both are this service's own.
use Rattle.seats.specs.parts.agreement.specs.declared.refusal.Refusal.TheVariants as refusal
use Rattle.node_worker.specs.declared.workplace.WorkplaceFault.{WorkplaceFault}
use Rattle.node_worker.specs.declared.workplace.WorkplaceFault.TheVariants as fault
use Rattle.node_worker.specs.declared.workplace.End.{End}
use Rattle.node_worker.specs.declared.workplace.End.TheVariants as ending
use Rattle.seats.specs.declared.fault.SeatFault.{SeatFault}
use Rattle.seats.specs.declared.fault.SeatFault.TheVariants as seat

-- a seat's fault, as a worker meets it
abbrev pub worker_fault : SeatFault → WorkplaceFault
worker_fault seat.Down = fault.Down
worker_fault seat.Strange = fault.Strange
worker_fault seat.JournalFull = fault.JournalFull
worker_fault seat.NotSent = fault.NotSent
worker_fault (seat.Refused refusal.OutOfRange) = fault.OutOfRange
worker_fault (seat.Refused refusal.SlotsSpent) = fault.SlotsSpent
worker_fault (seat.Refused refusal.RoundsSpent) = fault.RoundsSpent
worker_fault (seat.Refused refusal.OutOfMemory) = fault.OutOfMemory
worker_fault (seat.Store why) = fault.Store why
worker_fault seat.Lost = fault.Lost

-- how a put ended, as whoever handed it in is told
abbrev pub seat_fault : End → SeatFault
seat_fault ending.Down = seat.Down
seat_fault ending.SlotsSpent = seat.Refused refusal.SlotsSpent
seat_fault ending.RoundsSpent = seat.Refused refusal.RoundsSpent
seat_fault ending.JournalFull = seat.JournalFull
seat_fault (ending.Store why) = seat.Store why
