use Rattle.safe_histories.proofs.Shown.{up_shown}
use Rattle.safe_histories.proofs.laws.up_is_shown.Goals as goal

pub returns : goal.returns
returns c = λ config sent steps recovered seats node within reached. up_shown config sent steps recovered seats node within reached
