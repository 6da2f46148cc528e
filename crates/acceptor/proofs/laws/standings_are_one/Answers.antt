use Rattle.std.proofs.Common.{rules}
use Rattle.acceptor.proofs.Ranged.{standing_is_one}
use Rattle.acceptor.proofs.laws.standings_are_one.Goals as goal

pub returns-clause-prepare : goal.returns-clause-prepare
returns-clause-prepare c = search rules steps 300000

pub returns-clause-accept : goal.returns-clause-accept
returns-clause-accept c = search rules steps 300000

pub returns-clause-prepare_from : goal.returns-clause-prepare_from
returns-clause-prepare_from c = standing_is_one
