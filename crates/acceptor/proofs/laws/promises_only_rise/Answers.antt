use Rattle.std.proofs.Common.{rules}
use Rattle.acceptor.specs.Turns.{PrepareFromTurn}
use Rattle.acceptor.proofs.Running.{turn_rises}
use Rattle.acceptor.proofs.Ranged.{others_stay}
use Rattle.acceptor.proofs.laws.promises_only_rise.Goals as goal

pub returns-clause-prepare : goal.returns-clause-prepare
returns-clause-prepare c = search rules steps 300000

pub returns-clause-accept : goal.returns-clause-accept
returns-clause-accept c = search rules steps 300000

pub returns-clause-prepare_from : goal.returns-clause-prepare_from
returns-clause-prepare_from c = λ old new first ballot x takes. turn_rises old new (PrepareFromTurn first ballot x) takes

pub returns-clause-others_from : goal.returns-clause-others_from
returns-clause-others_from c = others_stay
