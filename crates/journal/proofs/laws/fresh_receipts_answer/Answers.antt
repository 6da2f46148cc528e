use Rattle.journal.proofs.Worth.{is_fresh}
use Rattle.journal.proofs.laws.fresh_receipts_answer.Goals as goal

pub returns : goal.returns
returns c = is_fresh c.fresh_tails_answer.ensures c.telling_loses_nothing.ensures.given
