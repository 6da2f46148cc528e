use Rattle.agreement_rules.proofs.Ticks.{begun_at}
use Rattle.agreement_rules.proofs.laws.attempts_begin_above_all_rounds.Goals as goal

pub returns : goal.returns
returns c = begun_at c.restored_is_one.ensures.round
