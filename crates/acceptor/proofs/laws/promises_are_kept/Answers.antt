use Rattle.std.proofs.Common.{rules}
use Rattle.acceptor.proofs.Running.{run_rises, above_before, at_least_before}
use Rattle.acceptor.proofs.laws.promises_are_kept.Goals as goal

pub returns-clause-promised : goal.returns-clause-promised
returns-clause-promised c = search rules steps 300000

pub returns-clause-granted : goal.returns-clause-granted
returns-clause-granted c = search rules steps 300000

pub returns-clause-no_prepare : goal.returns-clause-no_prepare
returns-clause-no_prepare c = λ old later new turns slot held ballot report has runs promised.
    above_before old.promised later.promised slot held ballot (run_rises old turns later runs) has promised.0

pub returns-clause-no_accept : goal.returns-clause-no_accept
returns-clause-no_accept c = λ old later new turns slot held proposal has runs granted.
    at_least_before old.promised later.promised slot held proposal.ballot (run_rises old turns later runs) has granted.0

pub returns-clause-promised_from : goal.returns-clause-promised_from
returns-clause-promised_from c = λ old new first slot ballot reports takes from. takes.2.promises.from slot from

pub returns-clause-no_prepare_from : goal.returns-clause-no_prepare_from
returns-clause-no_prepare_from c = λ old later new turns first slot held ballot reports has runs promised from.
    above_before old.promised later.promised slot held ballot (run_rises old turns later runs) has (promised.0 slot from)
