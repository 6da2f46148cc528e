-- The own entries of all nodes in one log, in the order in which they were entered. Logs are this service's own.
use Rattle.std.specs.Prelude.{◌≡◌, ◌⊎◌, ℕ, ◌<◌, ◌≤◌, ◌^◌, ◌==◌, if◌then◌else◌, Bool, Option, None, Some, IsSome, List, [], ◌∷◌, ◌++◌, length, slice_index_or}
use mathlib.Core.List.{IsPrefix}
use Rattle.std.specs.List.{filter}
use Rattle.node_parts.specs.ballots.specs.Limits.{max_members}
use Rattle.node_parts.specs.ballots.specs.declared.message.Message.{Message}
use Rattle.node_parts.specs.histories.specs.Event.{node_of}
use Rattle.node_parts.specs.histories.specs.Owning.{OwnEntry, is_query, entry_of}
use Rattle.node_parts.specs.traces.specs.declared.step.Step.{Step}
use Rattle.node_parts.specs.traces.specs.Told.{event_of, step_of}
use Rattle.journal.specs.Journaled.{Journaled, own_in}

-- the entries of one node
abbrev pub own_of : ℕ → List OwnEntry → List OwnEntry
own_of node log = filter (λ entry. node_of entry.step.event == node) log

-- each node has so many entries
abbrev pub AreCounted : List ℕ → List OwnEntry → Type 0
AreCounted counts log = (node : ℕ) → node < max_members → slice_index_or counts node 0 ≡ length (own_of node log)

-- the journal has just these own entries of each node
abbrev pub HasLogged : List OwnEntry → Journaled → Type 0
HasLogged log journal = (node : ℕ) → node < journal.trace.config.members → own_in node journal ≡ own_of node log

-- what the node of the step has as its own entry of it; a query has none
abbrev pub own_entry : Journaled → Step → List Message → Bool → Option OwnEntry
own_entry journal step more recovered =
    if is_query (event_of step.event) then None else Some (entry_of (journal.trace.sent ++ more) (step_of step) recovered)

-- a log with this entry more, if there is one
abbrev pub with_entry : List OwnEntry → Option OwnEntry → List OwnEntry
with_entry log None = log
with_entry log (Some entry) = log ++ entry ∷ []

-- The log has been seen to go on without whoever knew it to be so far; or it had as many entries as a log has at most.
abbrev pub HasGoneOn : List OwnEntry → Option (List OwnEntry) → Type 0
HasGoneOn log None = ⊥
HasGoneOn log (Some seen) = IsPrefix log seen × ((length log < length seen) ⊎ (2 ^ 62 ≤ length log))

-- What is known of a log after an entry, if there was one to add, and of how far it was seen to go on. It has this entry more; or it
-- stands no longer where it was known to stand, and has been seen to go on.
abbrev pub GoesOn : (log outrun : Option (List OwnEntry)) → Option OwnEntry → (log_now outrun_now : Option (List OwnEntry)) → Type 0
GoesOn None outrun more log_now outrun_now = (log_now ≡ None) × (outrun_now ≡ outrun)
GoesOn (Some log) outrun more log_now outrun_now =
    ((log_now ≡ Some (with_entry log more)) × (outrun_now ≡ outrun)) ⊎ ((log_now ≡ None) × HasGoneOn log outrun_now)

-- It knows the log still, if it did; or has seen it go on.
abbrev pub KeepsLog : (old new : Journaled) → Type 0
KeepsLog old new = (log : List OwnEntry) → old.log ≡ Some log → IsSome new.log ⊎ HasGoneOn log new.outrun
