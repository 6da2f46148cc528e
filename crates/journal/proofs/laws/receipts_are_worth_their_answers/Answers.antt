use Rattle.node_parts.specs.traces.specs.Told.{config_of}
use Rattle.node_parts.specs.traces.specs.Traced.{history_of}
use Rattle.journal.specs.Journaled.{seats_in}
use Rattle.journal.proofs.Worth.{are_worth}
use Rattle.journal.proofs.laws.receipts_are_worth_their_answers.Goals as goal

pub returns : goal.returns
returns c = λ journal before one other followed precedes is too.
    are_worth journal.trace one other
    (record {
      tickets = c.tails_are_safe.ensures.tickets (config_of journal.trace.config) (seats_in journal.start) followed.0 before (history_of journal.trace) journal.recovered precedes followed.1;
      acknowledged = c.tails_are_safe.ensures.acknowledged (config_of journal.trace.config) (seats_in journal.start) followed.0 before (history_of journal.trace) journal.recovered precedes followed.1;
    }) is too
