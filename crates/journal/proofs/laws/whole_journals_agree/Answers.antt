use Rattle.node_parts.specs.traces.specs.Traced.{history_of}
use Rattle.journal.proofs.Worth.{are_worth, follows}
use Rattle.journal.proofs.laws.whole_journals_agree.Goals as goal

pub returns-clause-follows : goal.returns-clause-follows
returns-clause-follows c = follows

pub returns-clause-lawful : goal.returns-clause-lawful
returns-clause-lawful c = λ journal nothing followed. c.replicas_agree.ensures.lawful (history_of journal.trace) (follows journal nothing followed)

pub returns-clause-safe : goal.returns-clause-safe
returns-clause-safe c = λ journal nothing followed. c.replicas_agree.ensures.safe (history_of journal.trace) (follows journal nothing followed)

pub returns-clause-worth : goal.returns-clause-worth
returns-clause-worth c = λ journal one other nothing followed is too.
    let safe = c.replicas_agree.ensures.safe (history_of journal.trace) (follows journal nothing followed) in
    are_worth journal.trace one other (record { tickets = safe.same_ticket_same_bytes; acknowledged = safe.acknowledged_stands_once }) is too
