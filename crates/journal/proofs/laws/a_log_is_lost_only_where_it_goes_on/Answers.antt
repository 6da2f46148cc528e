use Rattle.journal.proofs.Logging.{gone_on}
use Rattle.journal.proofs.laws.a_log_is_lost_only_where_it_goes_on.Goals as goal

pub returns : goal.returns
returns c = gone_on
