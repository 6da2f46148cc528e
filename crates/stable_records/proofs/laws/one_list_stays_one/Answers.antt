use Rattle.stable_records.proofs.CallerLemmas.{only_goes_on}
use Rattle.stable_records.proofs.StandingLemmas.{only_stands}
use Rattle.stable_records.proofs.laws.one_list_stays_one.Goals as goal

pub returns-clause-one : goal.returns-clause-one
returns-clause-one g c = λ old new records last.
    only_goes_on (g.S.Stable.finds old) (g.S.Stable.finds new) records last

pub returns-clause-stands : goal.returns-clause-stands
returns-clause-stands g c = λ store records. only_stands (g.S.Stable.finds store) records
