use Rattle.safe_histories.proofs.Answered.{latest_there, none_later, none_at_all}
use Rattle.safe_histories.proofs.laws.info_tells_the_latest.Goals as goal

pub returns-clause-latest : goal.returns-clause-latest
returns-clause-latest c = latest_there

pub returns-clause-last : goal.returns-clause-last
returns-clause-last c = none_later

pub returns-clause-none : goal.returns-clause-none
returns-clause-none c = none_at_all
