use Rattle.histories.proofs.Own.{own_leaves}
use Rattle.histories.proofs.laws.own_entries_leave_the_node.Goals as goal

pub returns : goal.returns
returns c = λ config start sent steps found seats node member reaches.
    own_leaves config sent node member steps found start seats 0 reaches
