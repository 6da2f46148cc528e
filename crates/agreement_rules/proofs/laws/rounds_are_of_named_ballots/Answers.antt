use Rattle.std.proofs.Common.{refl}
use Rattle.agreement_rules.proofs.Members.{at_least_named, of_named, seen_named, seen_before, seen_only}
use Rattle.agreement_rules.proofs.laws.rounds_are_of_named_ballots.Goals as goal

pub returns-clause-at_least : goal.returns-clause-at_least
returns-clause-at_least c = at_least_named

pub returns-clause-named : goal.returns-clause-named
returns-clause-named c = of_named

pub returns-clause-seen : goal.returns-clause-seen
returns-clause-seen c = seen_named

pub returns-clause-seen_before : goal.returns-clause-seen_before
returns-clause-seen_before c = seen_before

pub returns-clause-seen_only : goal.returns-clause-seen_only
returns-clause-seen_only c = seen_only

pub returns-clause-seen_else : goal.returns-clause-seen_else
returns-clause-seen_else c = λ views m. refl
