use Rattle.histories.specs.History.{History}
use Rattle.safe_histories.proofs.Heard.{ChoiceLaws, LearnerLaws}
use Rattle.safe_histories.proofs.Shown.{prefix_shown}
use Rattle.safe_histories.proofs.laws.prefix_is_shown.Goals as goal

pub returns : goal.returns
returns c = λ config sent steps recovered seats node views values within reached up.
    let choice : ChoiceLaws = record { one = c.one_value.ensures.chosen; decided = c.decided_is_one.ensures.chosen } in
    let told = c.learned_is_decided_or_chosen.ensures in
    let learner : LearnerLaws = record { decided = told.decided; chosen = told.chosen; only = told.only } in
    let history : History = record { config = config; sent = sent; steps = steps } in
    let lawful = c.what_follows_is_lawful.ensures history (record { recovered = recovered; seats = seats; reached = reached }) in
    prefix_shown config sent steps recovered seats node within reached lawful choice learner views up values
