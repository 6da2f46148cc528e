-- What a connection to one node of a cluster may tell, by what that node answered and what its tables hold. `table_types` has
-- what tables uploads make, and which versions and outcomes. Clusters are this service's own.
use Rattle.std.specs.Prelude.{◌≡◌, ◌⊎◌, ◌≤◌, ℕ, Bool, true, false, Option, None, Some, List, [], ◌∷◌, length}
use Rattle.std.specs.List.{AllZip}
use Rattle.node_threads.specs.parts.ballots.specs.declared.value.Value.{Value}
use Rattle.node_threads.specs.parts.table_types.specs.Uploads.{Upload}
use Rattle.node_threads.specs.parts.table_types.specs.Answers.{answer_of}
use Rattle.node_threads.specs.parts.table_types.specs.Tables.{Version, effective, table_names}
use Rattle.node_threads.specs.parts.table_versions.specs.Values.{AreUploadsIn}
use Rattle.node_threads.specs.parts.table_versions.specs.State.{agreed_values_limit}
use Rattle.node_threads.specs.parts.table_versions.specs.Outcomes.{told}
use Rattle.node_threads.specs.parts.table_versions.specs.declared.outcome.Outcome.{Outcome}
use Rattle.node_threads.specs.parts.agreement.specs.declared.refusal.Refusal.TheVariants as refusal
use Rattle.node_threads.specs.parts.agreement_rules.specs.Views.{Views}
use Rattle.node_threads.specs.parts.histories.specs.Texts.{HasUploads}
use Rattle.node_core.specs.State.{NodeState, NodeHas}
use Rattle.node_threads.specs.parts.node_events.specs.declared.event_result.EventResult.{EventResult}
use Rattle.node_threads.specs.parts.node_events.specs.declared.event_result.EventResult.TheVariants as given
use Rattle.node_threads.specs.seats.specs.declared.query.Query.{Query}
use Rattle.node_threads.specs.seats.specs.declared.query.Query.TheVariants as query
use Rattle.node_threads.specs.seats.specs.declared.fault.SeatFault.{SeatFault}
use Rattle.node_threads.specs.seats.specs.declared.fault.SeatFault.TheVariants as fault
use Rattle.node_threads.specs.journal.specs.declared.receipt.Receipt.{Receipt}
use Rattle.node_threads.specs.Told.{IsAskedAt}
use Rattle.call_protocol.specs.declared.back_fault.BackFault.{BackFault}
use Rattle.call_protocol.specs.declared.back_fault.BackFault.TheVariants as faults
use Rattle.call_reading.specs.Requests.{Request, describes, shows, lists, serves, puts}
use Rattle.flight_calls.specs.Replies.{BackAnswer, described, shown, listed, served, decided, failed}
use Rattle.table_backend.specs.Backing.{DescribesTable}

-- the node that is asked, where the nodes are served, the uploads that were handed over, and whether one waits for its outcome
pub record Connected : Type 0 where
  pub node : ℕ
  pub locations : List (List ℕ)
  pub handed : List (List ℕ)
  pub waits : Bool

abbrev pub is_there : {T : Type 0} → Option T → Bool
is_there None = false
is_there (Some x) = true

-- the same node is asked, and it is said to be served there
pub record StaysAt (old new : Connected) : Type 0 where
  pub node : new.node ≡ old.node
  pub locations : new.locations ≡ old.locations

-- the uploads of some agreed values
abbrev pub AreAgreed : List Upload → Type 0
AreAgreed uploads = (values : List Value) × AreUploadsIn values uploads × (length values ≤ agreed_values_limit)

-- of a ticket the frames of a version, or that there is none; of an upload what has become of it
abbrev pub IsAnswerTo : Query → EventResult → Type 0
IsAnswerTo (query.Get ticket) (given.Answer bytes) = (version : Version) × (bytes ≡ answer_of version)
IsAnswerTo (query.Get ticket) given.Unavailable = Unit {0}
IsAnswerTo (query.Get ticket) other = ⊥
IsAnswerTo (query.Outcome upload) (given.Outcome outcome) = Unit {0}
IsAnswerTo (query.Outcome upload) other = ⊥

-- the node's tables are those that these uploads make, as what it stands by leaves them
abbrev pub HasTables : NodeState → List Upload → Type 0
HasTables node uploads =
    (views : Views) × NodeHas node views × HasUploads node.agreement.config.members views.learner_calls uploads

-- there is a receipt of this query at this node, with this answer
abbrev pub IsEntered : ℕ → Query → EventResult → Type 0
IsEntered node asked answer = (receipt : Receipt) × IsAskedAt node asked receipt × (receipt.answer ≡ answer)

-- a node's fault, as clients are told it
abbrev pub told_as : SeatFault → BackFault
told_as fault.Down = faults.Down
told_as fault.Strange = faults.Store
told_as fault.JournalFull = faults.JournalFull
told_as fault.NotSent = faults.Store
told_as (fault.Refused refusal.OutOfRange) = faults.Store
told_as (fault.Refused refusal.SlotsSpent) = faults.SlotsSpent
told_as (fault.Refused refusal.RoundsSpent) = faults.RoundsSpent
told_as (fault.Refused refusal.OutOfMemory) = faults.OutOfMemory
told_as (fault.Store why) = faults.Store
told_as fault.Lost = faults.Store

-- memory was refused, or this is the node's own fault
abbrev pub MayFail : (ℕ → SeatFault → Type 0) → ℕ → BackFault → Type 0
MayFail fails node told = (told ≡ faults.OutOfMemory) ⊎ ((why : SeatFault) × fails node why × (told ≡ told_as why))

-- By what of a node is entered, what its tables may hold, why it may fail and that the caller may leave, this is an answer to the request.
module _ (entered : ℕ → Query → EventResult → Type 0) (holds : ℕ → List Upload → Type 0) (fails : ℕ → SeatFault → Type 0) (leaves : Type 0) where
  abbrev pub MayAnswer : Connected → Request → BackAnswer → Type 0
  MayAnswer at (describes table) (described d) =
      (uploads : List Upload) × holds at.node uploads × DescribesTable at.locations table (effective table uploads) d
  MayAnswer at (describes table) (failed told) =
      ((uploads : List Upload) × holds at.node uploads × (effective table uploads ≡ []) × (told ≡ faults.NoTable))
      ⊎ MayFail fails at.node told
  MayAnswer at (shows table) (shown schema) =
      (uploads : List Upload) × holds at.node uploads
      × ((first : Upload) × (rest : List Upload) × (effective table uploads ≡ first ∷ rest) × (schema ≡ first.schema))
  MayAnswer at (shows table) (failed told) =
      ((uploads : List Upload) × holds at.node uploads × (effective table uploads ≡ []) × (told ≡ faults.NoTable))
      ⊎ MayFail fails at.node told
  MayAnswer at lists (listed all) =
      (uploads : List Upload) × holds at.node uploads
      × AllZip (λ name d. DescribesTable at.locations name (effective name uploads) d) (table_names uploads) all
  MayAnswer at lists (failed told) = MayFail fails at.node told
  MayAnswer at (serves asked) (served version) = entered at.node (query.Get asked) (given.Answer (answer_of version))
  MayAnswer at (serves asked) (failed told) =
      (entered at.node (query.Get asked) given.Unavailable × (told ≡ faults.Unavailable)) ⊎ MayFail fails at.node told
  MayAnswer at (puts text) (decided outcome) =
      (known : Outcome) × (told known ≡ outcome) × entered at.node (query.Outcome text) (given.Outcome known)
  MayAnswer at (puts text) (failed told) =
      (((at.waits ≡ false) ⊎ leaves) × (told ≡ faults.Unavailable)) ⊎ MayFail fails at.node told
  MayAnswer at request other = ⊥
