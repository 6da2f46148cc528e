use Rattle.safe_histories.proofs.Answered.{one_get, one_info, one_outcome}
use Rattle.safe_histories.proofs.laws.answers_are_one.Goals as goal

pub returns-clause-get : goal.returns-clause-get
returns-clause-get c = one_get

pub returns-clause-info : goal.returns-clause-info
returns-clause-info c = one_info

pub returns-clause-outcome : goal.returns-clause-outcome
returns-clause-outcome c = one_outcome c.uploads_have_one_encoding.ensures
