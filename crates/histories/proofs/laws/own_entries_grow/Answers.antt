use Rattle.histories.proofs.Own.{own_grows}
use Rattle.histories.proofs.laws.own_entries_grow.Goals as goal

pub returns : goal.returns
returns c = λ config start sent more steps found seats step was node member reaches.
    own_grows config sent more node member step was steps found start seats 0 reaches
