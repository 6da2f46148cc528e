-- Answers of some tables are answers to what was asked.
use Rattle.std.proofs.Common.{◌≡◌, inl, inr, ℕ, List, refl, subst}
use Rattle.node_threads.specs.parts.table_types.specs.Uploads.{Upload}
use Rattle.node_threads.specs.parts.table_types.specs.Answers.{answer_of}
use Rattle.node_threads.specs.parts.histories.specs.EventResult as results
use Rattle.node_threads.specs.parts.node_events.specs.declared.event_result.EventResult.{EventResult}
use Rattle.node_threads.specs.parts.node_events.specs.declared.event_result.EventResult.TheVariants as given
use Rattle.node_threads.specs.seats.specs.declared.query.Query.{Query}
use Rattle.node_threads.specs.seats.specs.declared.query.Query.TheVariants as query
use Rattle.node_threads.specs.seats.specs.Steps.{AnswersQuery}
use Rattle.node_threads.specs.journal.specs.declared.receipt.Receipt.{Receipt}
use Rattle.node_threads.specs.Told.{IsAskedAt, Settling}
use Rattle.cluster_backend.specs.Backing.{IsAnswerTo, IsEntered}

same_bytes : (x y : List ℕ) → results.Answer x ≡ results.Answer y → x ≡ y
same_bytes x y is = cc

-- to a ticket
got : (uploads : List Upload) (ticket : _) (answer : EventResult) → AnswersQuery uploads (query.Get ticket) answer → IsAnswerTo (query.Get ticket) answer
got uploads ticket (given.Answer bytes) (inl (found, of, is)) = (found, same_bytes bytes (answer_of found) is)
got uploads ticket (given.Answer bytes) (inr (none, is)) = absurd cc
got uploads ticket given.Unavailable gives = tt
got uploads ticket (given.Sent first count) (inl (found, of, is)) = absurd cc
got uploads ticket (given.Sent first count) (inr (none, is)) = absurd cc
got uploads ticket given.Done (inl (found, of, is)) = absurd cc
got uploads ticket given.Done (inr (none, is)) = absurd cc
got uploads ticket (given.Info version) (inl (found, of, is)) = absurd cc
got uploads ticket (given.Info version) (inr (none, is)) = absurd cc
got uploads ticket given.NoTable (inl (found, of, is)) = absurd cc
got uploads ticket given.NoTable (inr (none, is)) = absurd cc
got uploads ticket (given.Outcome outcome) (inl (found, of, is)) = absurd cc
got uploads ticket (given.Outcome outcome) (inr (none, is)) = absurd cc
got uploads ticket (given.Refused reason) (inl (found, of, is)) = absurd cc
got uploads ticket (given.Refused reason) (inr (none, is)) = absurd cc

-- about an upload
known : (uploads : List Upload) (text : List ℕ) (answer : EventResult) → AnswersQuery uploads (query.Outcome text) answer → IsAnswerTo (query.Outcome text) answer
known uploads text (given.Outcome outcome) gives = tt
known uploads text (given.Answer bytes) (upload, is_text, is) = absurd cc
known uploads text given.Unavailable (upload, is_text, is) = absurd cc
known uploads text (given.Sent first count) (upload, is_text, is) = absurd cc
known uploads text given.Done (upload, is_text, is) = absurd cc
known uploads text (given.Info version) (upload, is_text, is) = absurd cc
known uploads text given.NoTable (upload, is_text, is) = absurd cc
known uploads text (given.Refused reason) (upload, is_text, is) = absurd cc

pub answers_so : (uploads : List Upload) (asked : Query) (answer : EventResult) → AnswersQuery uploads asked answer → IsAnswerTo asked answer
answers_so uploads (query.Get ticket) answer gives = got uploads ticket answer gives
answers_so uploads (query.Outcome text) answer gives = known uploads text answer gives

-- the receipt of what has become of an upload at a node is an answer about this upload there
pub settled_so : (settled : Settling) (node : ℕ) (text : List ℕ) (receipt : Receipt) → IsAskedAt settled.node (query.Outcome settled.upload) receipt
    → settled.node ≡ node → settled.upload ≡ text → IsEntered node (query.Outcome text) receipt.answer × IsAnswerTo (query.Outcome text) receipt.answer
settled_so settled node text receipt asked here same =
    let at : IsAskedAt node (query.Outcome text) receipt =
    subst (λ (n : ℕ). IsAskedAt n (query.Outcome text) receipt) here (subst (λ (t : List ℕ). IsAskedAt settled.node (query.Outcome t) receipt) same asked) in
    ((receipt, at, refl), answers_so at.uploads (query.Outcome text) receipt.answer at.answers)
