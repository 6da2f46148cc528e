-- What a replay writes of a run: a line for each event, with its number and what it gave. Numbers are decimal, bytes are
-- hexadecimal digits (RFC 4648, section 8, in lower case).
use Rattle.std.specs.Prelude.{ℕ, zero, suc, ◌+◌, List, [], ◌∷◌, ◌++◌, codes, decimal}
use Rattle.hex.specs.Hex.{encode_lower}
use Rattle.table_versions.specs.declared.outcome.Outcome.{Outcome}
use Rattle.table_versions.specs.declared.outcome.Outcome.TheVariants.{Applied, SchemaMismatch, Conflict, Unknown}
use Rattle.node_events.specs.declared.event.Event.{Event}
use Rattle.node_events.specs.declared.event.Event.TheVariants as event
use Rattle.node_events.specs.declared.event_result.EventResult.{EventResult}
use Rattle.node_events.specs.declared.event_result.EventResult.TheVariants as results
use Rattle.node_events.specs.declared.event_result.Reason.{Reason}
use Rattle.node_events.specs.declared.event_result.Reason.TheVariants.{OutOfRange, SlotsSpent, RoundsSpent, OutOfMemory, Down, NotSent}
use Rattle.traces.specs.declared.step.Step.{Step}

-- this number and as many more that follow it, with commas between them
abbrev pub numbers_text : ℕ → ℕ → List ℕ
numbers_text first zero = decimal first
numbers_text first (suc more) = numbers_text first more ++ (codes "," ++ decimal (first + suc more))

-- the messages that were sent, by their numbers: the first one's, and how many there are
abbrev pub sent_text : ℕ → ℕ → List ℕ
sent_text first zero = codes "sent -"
sent_text first (suc more) = codes "sent " ++ numbers_text first more

-- what is said of an event that was taken: of one by which a node goes down, and of any other
abbrev pub done_text : Event → List ℕ
done_text (event.TickCut node left) = codes "cut"
done_text (event.DeliverCut node number) = codes "cut"
done_text (event.Put node upload) = codes "done"
done_text (event.Tick node left) = codes "done"
done_text (event.Deliver node number) = codes "done"
done_text (event.Restart node) = codes "done"
done_text (event.Get node ticket) = codes "done"
done_text (event.Info node table) = codes "done"
done_text (event.Outcome node upload) = codes "done"

abbrev pub outcome_text : Outcome → List ℕ
outcome_text (Applied version) = codes "applied " ++ decimal version
outcome_text SchemaMismatch = codes "mismatch"
outcome_text Conflict = codes "conflict"
outcome_text Unknown = codes "unknown"

abbrev pub reason_text : Reason → List ℕ
reason_text OutOfRange = codes "OutOfRange"
reason_text SlotsSpent = codes "SlotsSpent"
reason_text RoundsSpent = codes "RoundsSpent"
reason_text OutOfMemory = codes "OutOfMemory"
reason_text Down = codes "Down"
reason_text NotSent = codes "NotSent"

-- what an event gave
abbrev pub result_text : Event → EventResult → List ℕ
result_text happened (results.Sent first count) = sent_text first count
result_text happened results.Done = done_text happened
result_text happened (results.Answer bytes) = codes "answer " ++ encode_lower bytes
result_text happened results.Unavailable = codes "unavailable"
result_text happened (results.Info version) = codes "info " ++ decimal version
result_text happened results.NoTable = codes "notable"
result_text happened (results.Outcome outcome) = outcome_text outcome
result_text happened (results.Refused reason) = codes "refused " ++ reason_text reason

-- the line of the event of this number
abbrev pub line_of : ℕ → Step → List ℕ
line_of number step = decimal number ++ (codes " " ++ (result_text step.event step.result ++ codes "\n"))

-- the lines of these steps, which are numbered from this number on
abbrev pub lines_from : ℕ → List Step → List ℕ
lines_from number [] = []
lines_from number (step ∷ steps) = line_of number step ++ lines_from (number + 1) steps

-- the lines of a run: events are numbered from 0 on
abbrev pub lines_of : List Step → List ℕ
lines_of steps = lines_from 0 steps
