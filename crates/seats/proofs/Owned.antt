-- A node's own entry of a step, and what it knows of the log of all own entries.
use Rattle.std.proofs.Common.{◌≡◌, ◌⊎◌, inl, inr, ℕ, ◌<◌, ◌≤◌, ◌==◌, Bool, false, if◌then◌else◌, Option, None, Some, List, [], ◌∷◌, ◌++◌, length, arith, refl, sym, ap, subst, ◌∙◌}
use Rattle.std.specs.Option.{IfSome}
use Rattle.std.proofs.lemmas.List.Elements.{filter-append}
use mathlib.Core.List.{IsPrefix}
use Rattle.journal.specs.parts.ballots.specs.declared.message.Message.{Message}
use Rattle.journal.specs.parts.histories.specs.Event.{node_of}
use Rattle.journal.specs.parts.histories.specs.Following.{UpOrDown}
use Rattle.journal.specs.parts.histories.specs.Owning.{OwnEntry, is_query, entry_of}
use Rattle.journal.specs.parts.node_events.specs.declared.event.Event.{Event}
use Rattle.journal.specs.parts.node_events.specs.declared.event_result.EventResult.{EventResult}
use Rattle.journal.specs.parts.node_events.specs.Told.{event_of}
use Rattle.stored_nodes.specs.State.{StoredNodeState}
use Rattle.journal.specs.parts.traces.specs.declared.step.Step.{Step}
use Rattle.journal.specs.parts.traces.specs.Told.{step_of}
use Rattle.journal.specs.Journaled.{Journaled, own_in}
use Rattle.journal.specs.Logged.{own_of, own_entry, HasLogged}
use Rattle.seats.specs.declared.input.SeatInput.{SeatInput}
use Rattle.seats.specs.declared.input.SeatInput.TheVariants.{Put, Tick, Deliver}
use Rattle.seats.specs.declared.query.Query.{Query}
use Rattle.seats.specs.declared.query.Query.TheVariants as query
use Rattle.seats.specs.Inputs.{event_at, IsCutAt, IsSentIn}
use Rattle.seats.specs.Entries.{done_step, done_entry, cut_step, cut_entry}
use Rattle.seats.specs.State.{RunningSeat}
use Rattle.seats.specs.Steps.{asked_at}
use Rattle.seats.proofs.Joining.{done_is_own, cut_is_own}
use Rattle.seats.proofs.Leading.{Done, put_none, Leaves, member_in}

-- ---- its own entry

asks_none_done : (me : ℕ) (input : SeatInput) → is_query (event_of (event_at me input)) ≡ false
asks_none_done me (Put upload) = refl
asks_none_done me (Tick left) = refl
asks_none_done me (Deliver number message) = refl

own_where : (before : Journaled) (step : Step) (more : List Message) (was : Bool) (entry : OwnEntry) → is_query (event_of step.event) ≡ false
    → entry_of (before.trace.sent ++ more) (step_of step) was ≡ entry → own_entry before step more was ≡ Some entry
own_where before step more was entry none is =
    ap (λ (b : Bool). if b then None else Some (entry_of (before.trace.sent ++ more) (step_of step) was)) none ∙ ap (λ (e : OwnEntry). Some e) is

pub own_done : {S : Type 0} (old : RunningSeat S) (node : StoredNodeState S) (before : Journaled) (input : SeatInput) (sends : List Message) (me count : ℕ) → count ≡ length sends
    → IsSentIn before.trace.sent input → Done old node input sends
    → own_entry before (done_step me input (length before.trace.sent) count) sends false ≡ Some (done_entry me input (length before.trace.sent) sends)
own_done old node before input sends me count counted sent done =
    subst (λ (k : ℕ). own_entry before (done_step me input (length before.trace.sent) k) sends false ≡ Some (done_entry me input (length before.trace.sent) sends)) (sym counted)
    (own_where before (done_step me input (length before.trace.sent) (length sends)) sends false (done_entry me input (length before.trace.sent) sends) (asks_none_done me input)
    (done_is_own before.trace.sent me input sends (put_none old node input sends done) sent))

asks_none_cut : (me : ℕ) (input : SeatInput) (cut : Event) → IsCutAt me input cut → is_query (event_of cut) ≡ false
asks_none_cut me (Put upload) cut is = absurd is
asks_none_cut me (Tick left) cut is = ap (λ (e : Event). is_query (event_of e)) is
asks_none_cut me (Deliver number message) cut is = ap (λ (e : Event). is_query (event_of e)) is

pub own_cut : (before : Journaled) (me : ℕ) (input : SeatInput) → IsSentIn before.trace.sent input → (cut : Event) → IsCutAt me input cut
    → own_entry before (cut_step cut) [] false ≡ Some (cut_entry cut input)
own_cut before me input sent cut is =
    own_where before (cut_step cut) [] false (cut_entry cut input) (asks_none_cut me input cut is) (cut_is_own before.trace.sent me input cut is sent)

-- a query has none
pub own_served : (before : Journaled) (me : ℕ) (asked : Query) (answer : EventResult) → None ≡ own_entry before (record { event = asked_at me asked; result = answer }) [] false
own_served before me (query.Get ticket) answer = refl
own_served before me (query.Outcome upload) answer = refl

-- ---- what is known of the log

-- what the journal's log has of the node is what the node has
pub known_own : {S : Type 0} (new : RunningSeat S) (after : Journaled) (left : UpOrDown) (me : ℕ) (found : Option (List OwnEntry)) → Leaves new after left → me ≡ new.node.me
    → IfSome found (λ log. HasLogged log after) → IfSome found (λ log. new.own ≡ own_of me log)
known_own new after left me None leaves is has = tt
known_own new after left me (Some log) leaves is has =
    subst (λ (m : ℕ). new.own ≡ own_of m log) (sym is) (sym leaves.agrees.1 ∙ has new.node.me (member_in new after left leaves.led leaves.agrees))

-- a log without an entry has none of the node
pub nothing_known : (known : Option (List OwnEntry)) (mine : List OwnEntry) (me : ℕ) → mine ≡ [] → IfSome known (λ entries. entries ≡ []) → IfSome known (λ log. mine ≡ own_of me log)
nothing_known None mine me none empty = tt
nothing_known (Some log) mine me none empty = none ∙ sym (ap (λ (es : List OwnEntry). own_of me es) empty)

-- ---- two that know one log

own_begins : (node : ℕ) (xs ys : List OwnEntry) → IsPrefix xs ys → IsPrefix (own_of node xs) (own_of node ys)
own_begins node xs ys begins = (
  own_of node begins.0,
  sym (filter-append (λ (e : OwnEntry). node_of e.step.event == node) xs begins.0) ∙ ap (λ (es : List OwnEntry). own_of node es) begins.1,
)

prefix_whole : {A : Type 0} (xs ys : List A) → IsPrefix xs ys → length ys ≤ length xs → xs ≡ ys
prefix_whole [] [] p le = refl
prefix_whole [] (y ∷ ys) p le = absurd (omega arith)
prefix_whole (x ∷ xs) [] p le = absurd (cc (p.1))
prefix_whole (x ∷ xs) (y ∷ ys) p le =
    let rest = prefix_whole xs ys (p.0, cc (p.1)) (omega arith) in cc (p.1, rest)

equal_where_as_many : (node : ℕ) (xs ys : List OwnEntry) → IsPrefix xs ys ⊎ IsPrefix ys xs → length (own_of node xs) ≡ length (own_of node ys) → own_of node xs ≡ own_of node ys
equal_where_as_many node xs ys (inl begins) as_many = prefix_whole (own_of node xs) (own_of node ys) (own_begins node xs ys begins) (omega (arith, as_many))
equal_where_as_many node xs ys (inr begins) as_many = sym (prefix_whole (own_of node ys) (own_of node xs) (own_begins node ys xs begins) (omega (arith, as_many)))

-- a journal that has as many entries of the node as this knows has just these
pub own_where_as_many : (node : ℕ) (journal : Journaled) (mine known log : List OwnEntry) → node < journal.trace.config.members → mine ≡ own_of node known → HasLogged log journal
    → IsPrefix known log ⊎ IsPrefix log known → length mine ≡ length (own_in node journal) → own_in node journal ≡ mine
own_where_as_many node journal mine known log member is has beside as_many =
    let has_it = has node member in
    has_it ∙ (sym (equal_where_as_many node known log beside (sym (ap (λ (es : List OwnEntry). length es) is) ∙ (as_many ∙ ap (λ (es : List OwnEntry). length es) has_it))) ∙ sym is)
