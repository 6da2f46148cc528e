use Rattle.record_sums.proofs.Entered.{one_more}
use Rattle.record_sums.proofs.laws.one_entry_is_one_record_more.Goals as goal

pub returns : goal.returns
returns c = one_more
