use Rattle.node_events.proofs.Telling.{one_event, one_gave}
use Rattle.node_events.proofs.laws.telling_loses_nothing.Goals as goal

pub returns : goal.returns
returns c = record { events = one_event; given = one_gave }
