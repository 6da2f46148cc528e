use Rattle.proposer.proofs.Turns.{reports_by_slot}
use Rattle.proposer.proofs.laws.reports_are_by_slot.Goals as goal

pub returns : goal.returns
returns c = reports_by_slot
