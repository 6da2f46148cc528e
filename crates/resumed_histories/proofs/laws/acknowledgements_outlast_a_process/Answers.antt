use Rattle.std.proofs.Common.{refl}
use Rattle.resumed_histories.proofs.Outlasting.{stands_there}
use Rattle.resumed_histories.proofs.laws.acknowledgements_outlast_a_process.Goals as goal

pub returns-clause-stands : goal.returns-clause-stands
returns-clause-stands c = λ config left start seats before tail found told recovered i j k l number version text y upload precedes recorded starts reaches is_text told_so le answered.
    let whole = c.a_process_may_start_over.ensures config left start before found told precedes recorded starts in
    let there = stands_there whole.0.steps before.steps whole.2 i _ refl told_so in
    c.acknowledgements_outlast.ensures.stands config start seats whole.0 tail recovered there.0 j k l number version text y upload whole.1 reaches is_text there.1 le answered

pub returns-clause-same : goal.returns-clause-same
returns-clause-same c = λ config left start seats before tail found told recovered i j k l version table x y precedes recorded starts reaches one other.
    let whole = c.a_process_may_start_over.ensures config left start before found told precedes recorded starts in
    let there = stands_there whole.0.steps before.steps whole.2 i _ refl one in
    c.acknowledgements_outlast.ensures.same config start seats whole.0 tail recovered there.0 j k l version table x y whole.1 reaches there.1 other
