use Rattle.std.proofs.Common.{refl}
use Rattle.histories.proofs.Learning.{alike_same}
use Rattle.histories.proofs.Again.{reach_again}
use Rattle.histories.proofs.laws.own_entries_decide_the_node.Goals as goal

pub returns : goal.returns
returns c = λ config start sent steps found seats node seat member reaches entries.
    reach_again config sent node member seats seat steps found start start 0 (λ other away. refl) (alike_same (start node)) reaches entries
