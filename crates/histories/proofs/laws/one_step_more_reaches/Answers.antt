use Rattle.histories.proofs.Reached.{reach_more}
use Rattle.histories.proofs.laws.one_step_more_reaches.Goals as goal

pub returns : goal.returns
returns c = λ config start sent more steps recovered seats new step was reaches follows asked count.
    reach_more config sent more seats step was new follows asked count steps recovered start 0 reaches
