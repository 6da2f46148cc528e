-- What a node's step tells.
use Rattle.std.proofs.Common.{◌≡◌, ℕ, ◌-◌, inl, inr, List, ◌++◌, length, length-append, arith, sym, ap, ◌∙◌, Some}
use Rattle.seats.specs.parts.ballots.specs.declared.message.Message.{Message}
use Rattle.seats.specs.parts.table_types.specs.Uploads.{Upload}
use Rattle.seats.specs.parts.table_types.specs.Tables.{Version, version_of}
use Rattle.seats.specs.parts.table_types.specs.Answers.{answer_of}
use Rattle.seats.specs.parts.histories.specs.EventResult as results
use Rattle.seats.specs.parts.histories.specs.Following.{GetGives}
use Rattle.seats.specs.parts.node_events.specs.declared.event_result.EventResult.{EventResult}
use Rattle.seats.specs.parts.node_events.specs.declared.event_result.EventResult.TheVariants.{Answer}
use Rattle.seats.specs.parts.node_events.specs.Told.{result_of}
use Rattle.seats.specs.journal.specs.declared.receipt.Receipt.{Receipt}
use Rattle.seats.specs.journal.specs.Journaled.{Journaled}
use Rattle.seats.specs.parts.table_types.specs.Ticket.{TableVersion}
use Rattle.seats.specs.declared.input.Prepared.{Prepared}
use Rattle.seats.specs.declared.query.Query.TheVariants as query
use Rattle.seats.specs.declared.input.SeatInput.{SeatInput}
use Rattle.seats.specs.Inputs.{event_at, given_for}
use Rattle.seats.specs.State.{RunningSeat}
use Rattle.seats.specs.Steps.{IsTaken}
use Rattle.node_worker.specs.declared.workplace.WorkInput.{WorkInput as Input}
use Rattle.node_worker.specs.declared.workplace.Sent.{Sent}
use Rattle.node_threads.specs.declared.steps.Taken.{Taken}
use Rattle.node_threads.specs.Told.{IsTold, IsAskedAt, IsGotAt}
use Rattle.node_threads.specs.Working.{seat_input, IsHanded}

-- an answer is the text of a version
same_bytes : (x y : List ℕ) → results.Answer x ≡ results.Answer y → x ≡ y
same_bytes x y is = cc

answer_is_none : (x : List ℕ) → results.Answer x ≡ results.Unavailable → ⊥
answer_is_none x is = cc

got_version : (uploads : List Upload) (table : List ℕ) (version : ℕ) (given : EventResult) (x : List ℕ) → GetGives uploads table version (result_of given) → given ≡ Answer x
    → (found : Version) × (version_of table version uploads ≡ Some found) × (x ≡ answer_of found)
got_version uploads table version given x (inl (found, of, is)) same = (found, of, same_bytes x (answer_of found) (sym (ap result_of same) ∙ is))
got_version uploads table version given x (inr (none, is)) same = absurd (answer_is_none x (sym (ap result_of same) ∙ is))

-- the receipt of a ticket has the frames of its version
pub got_at : (node : ℕ) (ticket : TableVersion) (receipt : Receipt) (x frames : List ℕ) → IsAskedAt node (query.Get ticket) receipt → receipt.answer ≡ Answer x
    → frames ≡ x → IsGotAt node ticket.table ticket.version frames receipt
got_at node ticket receipt x frames asked is same =
    let got = got_version asked.uploads ticket.table ticket.version receipt.answer x asked.answers is in record {
      event_is = asked.event_is;
      answer_is = is ∙ ap (λ (l : List ℕ). Answer l) (sym same);
      uploads = asked.uploads;
      found = got.0;
      of = got.1;
      frames_are = same ∙ got.2;
    }

-- a step that was taken tells its messages
pub told_so : {S : Type 0} (old new : RunningSeat S) (before after : Journaled) (prepared : Prepared) (receipt : Receipt) (first next : ℕ) → IsTaken old new before after prepared receipt
    → first ≡ length before.trace.sent → next ≡ length after.trace.sent → IsTold old.node.me prepared.input (record { receipt = receipt; sent = record { start = first; end = next } })
told_so old new before after prepared receipt first next taken begins ends =
    let grown : length after.trace.sent ≡ length (before.trace.sent ++ taken.plan.sends) = ap (λ (ms : List Message). length ms) taken.entry.trace.sent_is in
    let added = length-append before.trace.sent taken.plan.sends in
    let count : next - first ≡ length taken.plan.sends = omega (arith, begins, ends, grown, added) in
    record {
      event_is = ap (λ (r : Receipt). r.event) taken.told;
      forth = omega (arith, begins, ends, grown, added);
      answer_is = taken.answer_is ∙ (ap (λ (k : ℕ). given_for prepared.input k (length taken.plan.sends)) (sym begins) ∙ ap (λ (k : ℕ). given_for prepared.input first k) (sym count));
    }

-- and so it is told by a worker's input and the numbers of its messages
pub handed_so : {node : ℕ} (input : Input) (given : SeatInput) (taken : Taken) (sent : Sent) → given ≡ seat_input input → IsTold node given taken
    → sent.first ≡ taken.sent.start → sent.next ≡ taken.sent.end → IsHanded input sent
handed_so {node} input given taken sent same told first next =
    let count : taken.sent.end - taken.sent.start ≡ sent.next - sent.first = omega (arith, first, next) in (
      taken.receipt,
      node,
      record {
        event_is = told.event_is ∙ ap (λ (i : SeatInput). event_at node i) same;
        forth = omega (arith, told.forth, first, next);
        answer_is =
            told.answer_is ∙ (ap (λ (i : SeatInput). given_for i taken.sent.start (taken.sent.end - taken.sent.start)) same
            ∙ (ap (λ (k : ℕ). given_for (seat_input input) k (taken.sent.end - taken.sent.start)) (sym first)
            ∙ ap (λ (k : ℕ). given_for (seat_input input) sent.first k) count));
      },
    )
