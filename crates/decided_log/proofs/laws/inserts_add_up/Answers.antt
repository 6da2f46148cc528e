use Rattle.std.proofs.Common.{rules}
use Rattle.decided_log.proofs.Lookups.{one_more, one_insert, no_insert}
use Rattle.decided_log.proofs.laws.inserts_add_up.Goals as goal

pub returns-clause-one : goal.returns-clause-one
returns-clause-one c = search rules steps 300000

pub returns-clause-none : goal.returns-clause-none
returns-clause-none c = search rules steps 300000

pub returns-clause-more : goal.returns-clause-more
returns-clause-more c = λ inserts old new slot value holds step. one_more old new slot value step inserts holds

pub returns-clause-back : goal.returns-clause-back
returns-clause-back c = λ inserts old new slot value before after. record {
  kept = one_insert inserts (old slot) (new slot) slot value (before slot) (after slot);
  others = λ other apart. no_insert inserts (old other) (new other) slot other value apart (before other) (after other);
}

pub returns-clause-same : goal.returns-clause-same
returns-clause-same c = search rules steps 300000
