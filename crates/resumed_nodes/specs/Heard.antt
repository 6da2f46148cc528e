-- What a node has that starts again with its records, and is handed again messages that tell which values were accepted
-- or decided: Lamport, "Paxos Made Simple", sections 2.3 and 2.5.
use Rattle.std.specs.Prelude.{ℕ, max, List, [], map}
use Rattle.std.specs.List.{fold, flat_map}
use Rattle.ballots.specs.declared.record.Record.{Record}
use Rattle.ballots.specs.declared.message.Message.{Message}
use Rattle.learner.specs.Calls.{LearnerCall}
use Rattle.agreement_rules.specs.Views.{Views}
use Rattle.agreement_rules.specs.Due.{round_in}
use Rattle.agreement_rules.specs.Calling.{learner_calls_of}
use Rattle.histories.specs.Following.{UpOrDown, IsUp}

-- the greatest round in messages
abbrev pub greatest_round : List Message → ℕ
greatest_round told = fold (λ round m. max round (round_in m.body)) 0 told

-- the calls of a learner to which they are told, in their order
abbrev pub learner_calls_from : List Message → List LearnerCall
learner_calls_from told = flat_map (λ m. learner_calls_of m.sender m.slot m.body) told

-- It has its records, has seen the rounds of these messages, and its learner was told each of them. Nothing waits at
-- it, and it proposes nothing.
abbrev pub heard : List Record → List Message → Views
heard records told = record {
  records = records;
  seen_round = greatest_round told;
  waiting = [];
  proposer_calls = [];
  learner_calls = learner_calls_from told;
}

-- each node is up, with its own records, and heard the same messages
abbrev pub starts_of : List (List Record) → List Message → List UpOrDown
starts_of all told = map (λ records. IsUp (heard records told)) all
