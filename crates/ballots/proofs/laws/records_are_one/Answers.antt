use Rattle.ballots.proofs.RecordDecodes.{one_record}
use Rattle.ballots.proofs.laws.records_are_one.Goals as goal

pub returns : goal.returns
returns c = one_record
