use Rattle.record_sums.proofs.Entered.{what_was_entered}
use Rattle.record_sums.proofs.laws.what_was_entered_is_found.Goals as goal

pub returns : goal.returns
returns c = what_was_entered
