-- Messages and records written as all fields.
use Rattle.std.proofs.Common.{◌≡◌, ℕ, [], Some, None, refl}
use Rattle.ballots.specs.declared.message.numbers.TheConstants.{PREPARE, PROMISE, NACK, ACCEPT, ACCEPTED, ASK, DECIDED}
use Rattle.ballots.specs.declared.record.numbers.TheConstants.{BEGAN, PROMISED, ACCEPTED as KEPT, PROMISED_FROM}
use Rattle.ballots.specs.declared.record.Record.TheVariants.{Began, Promised, Accepted as Kept, PromisedFrom}
use Rattle.ballots.specs.Record.{canonical_record}
use Rattle.ballots.specs.declared.acceptance.Acceptance.{Acceptance}
use Rattle.ballots.specs.declared.value.Value.{Value}
use Rattle.ballots.specs.declared.message.Body.TheVariants.{Prepare, Promise, Nack, Accept, Accepted, Ask, Decided}
use Rattle.ballots.specs.Ballot.{Ballot}
use Rattle.ballots.specs.Message.{message, value_bytes, canonical}
use Rattle.ballots.specs.AllFields.{all_fields_text, all_record_fields_text}

pub prepare_writes : (sender slot : ℕ) (b : Ballot) → canonical (message sender slot (Prepare b)) ≡ all_fields_text PREPARE sender slot b.round b.node 0 0 []
unfolding canonical all_fields_text
prepare_writes sender slot b = refl

pub promise_writes : (sender slot : ℕ) (b : Ballot) → canonical (message sender slot (Promise b None)) ≡ all_fields_text PROMISE sender slot b.round b.node 0 0 []
unfolding canonical all_fields_text
promise_writes sender slot b = refl

pub report_writes : (sender slot : ℕ) (b : Ballot) (r : Acceptance)
    → canonical (message sender slot (Promise b (Some r))) ≡ all_fields_text PROMISE sender slot b.round b.node r.ballot.round r.ballot.node (value_bytes r.value)
unfolding canonical all_fields_text
report_writes sender slot b r = refl

pub nack_writes : (sender slot : ℕ) (b c : Ballot) → canonical (message sender slot (Nack b c)) ≡ all_fields_text NACK sender slot b.round b.node c.round c.node []
unfolding canonical all_fields_text
nack_writes sender slot b c = refl

pub accept_writes : (sender slot : ℕ) (a : Acceptance)
    → canonical (message sender slot (Accept a)) ≡ all_fields_text ACCEPT sender slot a.ballot.round a.ballot.node 0 0 (value_bytes a.value)
unfolding canonical all_fields_text
accept_writes sender slot a = refl

pub accepted_writes : (sender slot : ℕ) (a : Acceptance)
    → canonical (message sender slot (Accepted a)) ≡ all_fields_text ACCEPTED sender slot a.ballot.round a.ballot.node 0 0 (value_bytes a.value)
unfolding canonical all_fields_text
accepted_writes sender slot a = refl

pub ask_writes : (sender slot : ℕ) → canonical (message sender slot Ask) ≡ all_fields_text ASK sender slot 0 0 0 0 []
unfolding canonical all_fields_text
ask_writes sender slot = refl

pub decided_writes : (sender slot : ℕ) (v : Value) → canonical (message sender slot (Decided v)) ≡ all_fields_text DECIDED sender slot 0 0 0 0 (value_bytes v)
unfolding canonical all_fields_text
decided_writes sender slot v = refl

pub ruleset all_fields = (prepare_writes, promise_writes, report_writes, nack_writes, accept_writes, accepted_writes, ask_writes, decided_writes)

pub began_writes : (b : Ballot) → canonical_record (Began b) ≡ all_record_fields_text BEGAN 0 b.round b.node []
unfolding canonical_record all_record_fields_text
began_writes b = refl

pub promised_writes : (slot : ℕ) (b : Ballot) → canonical_record (Promised slot b) ≡ all_record_fields_text PROMISED slot b.round b.node []
unfolding canonical_record all_record_fields_text
promised_writes slot b = refl

pub kept_writes : (slot : ℕ) (a : Acceptance) → canonical_record (Kept slot a) ≡ all_record_fields_text KEPT slot a.ballot.round a.ballot.node (value_bytes a.value)
unfolding canonical_record all_record_fields_text
kept_writes slot a = refl

pub promised_from_writes : (first : ℕ) (b : Ballot) → canonical_record (PromisedFrom first b) ≡ all_record_fields_text PROMISED_FROM first b.round b.node []
unfolding canonical_record all_record_fields_text
promised_from_writes first b = refl

pub ruleset all_record_fields = (began_writes, promised_writes, kept_writes, promised_from_writes)
