use Rattle.std.proofs.Common.{rules}
use Rattle.acceptor.proofs.Ranged.{reports_are_one, greatest_is_one, not_refused}
use Rattle.acceptor.proofs.laws.answers_are_one.Goals as goal

pub returns-clause-prepare : goal.returns-clause-prepare
returns-clause-prepare c = search rules steps 300000

pub returns-clause-accept : goal.returns-clause-accept
returns-clause-accept c = search rules steps 300000

pub returns-clause-promise_from : goal.returns-clause-promise_from
returns-clause-promise_from c = λ old a b first ballot x y of_x of_y. reports_are_one old.accepted first x.items y.items of_x.1 of_y.1

pub returns-clause-nack_from : goal.returns-clause-nack_from
returns-clause-nack_from c = λ old a b first ballot x y of_x of_y. greatest_is_one old.promised first x y of_x.greatest of_y.greatest

pub returns-clause-kind_from : goal.returns-clause-kind_from
returns-clause-kind_from c = λ old a b first ballot y x of_x of_y. not_refused old.promised first ballot y of_x.0 of_y.greatest of_y.not_below
