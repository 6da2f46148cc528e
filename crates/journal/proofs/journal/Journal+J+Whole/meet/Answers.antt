use Rattle.std.proofs.Common.{subst, sym}
use Rattle.node_parts.specs.traces.specs.Told.{config_of, steps_of}
use Rattle.node_parts.specs.traces.specs.Traced.{Traced, history_of}
use Rattle.journal.specs.Journaled.{seats_in}
use Rattle.journal.proofs.Worth.{KeepsPromises, are_worth}
use Rattle.journal.proofs.journal.Journal+J+Whole.meet.Goals as goal

pub returns-then-is_told-clause-worth : goal.returns-then-is_told-clause-worth
returns-then-is_told-clause-worth g c = λ both before precedes.
    let journal = c.args.self.now in
    let followed = c.trace-trace.ensures.followed in
    let keeps : KeepsPromises (steps_of journal.trace.steps) = record {
      tickets = c.tails_are_safe.ensures.tickets (config_of journal.trace.config) (seats_in journal.start) followed.0 before (history_of journal.trace) journal.recovered precedes followed.1;
      acknowledged = c.tails_are_safe.ensures.acknowledged (config_of journal.trace.config) (seats_in journal.start) followed.0 before (history_of journal.trace) journal.recovered precedes followed.1;
    } in
    are_worth c.trace-trace.result.now c.args.one.now c.args.other.now
    (subst (λ (t : Traced). KeepsPromises (steps_of t.steps)) (sym c.trace-trace.ensures.trace) keeps)
    (c.is_told.ensures.0 c.if-is_told.true) (c.is_told-then-is_told.ensures.0 both)
