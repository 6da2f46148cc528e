use Rattle.agreement_rules.proofs.Kept.{body_stands, tick_stands}
use Rattle.agreement_rules.proofs.laws.plans_keep_what_they_send.Goals as goal

pub returns-clause-body : goal.returns-clause-body
returns-clause-body c = λ config me views sender slot said plan due. body_stands config me views plan sender slot said due

pub returns-clause-tick : goal.returns-clause-tick
returns-clause-tick c = λ config me views left plan due. tick_stands config me views plan left due
