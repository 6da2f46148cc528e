use Rattle.std.proofs.Common.{rules, subst}
use Rattle.ballots.specs.Ballot.{IsAbove}
use Rattle.acceptor.proofs.Ranged.{reported_where}
use Rattle.acceptor.proofs.laws.answers_follow_the_promise.Goals as goal

pub returns-clause-promised : goal.returns-clause-promised
returns-clause-promised c = search rules steps 300000

pub returns-clause-reported : goal.returns-clause-reported
returns-clause-reported c = search rules steps 300000

pub returns-clause-granted : goal.returns-clause-granted
returns-clause-granted c = search rules steps 300000

pub returns-clause-promised_from : goal.returns-clause-promised_from
returns-clause-promised_from c = λ old new first slot ballot held reports takes from is. subst (IsAbove ballot) is (takes.0 slot from)

pub returns-clause-reported_from : goal.returns-clause-reported_from
returns-clause-reported_from c = λ old new first slot ballot held reports takes. reported_where old.accepted first reports.items takes.1 slot held

pub returns-clause-rising_from : goal.returns-clause-rising_from
returns-clause-rising_from c = λ old new first ballot reports takes. takes.1.rising

pub returns-clause-refused_from : goal.returns-clause-refused_from
returns-clause-refused_from c = λ old new first ballot promised refuses. (refuses.not_below, refuses.greatest.is_promised)
