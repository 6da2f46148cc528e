use Rattle.disk_records.proofs.CallerLemmas.{opened_at, shut_at, closed_stays}
use Rattle.disk_records.proofs.laws.one_block_is_one_record_more.Goals as goal

pub returns-clause-open : goal.returns-clause-open
returns-clause-open c = opened_at

pub returns-clause-shut : goal.returns-clause-shut
returns-clause-shut c = shut_at

pub returns-clause-behind : goal.returns-clause-behind
returns-clause-behind c = closed_stays
