use Rattle.lawful_histories.proofs.Agreement.{one_value_law, chosen_value_stays_law}
use Rattle.lawful_histories.proofs.laws.one_value.Goals as goal

pub returns-clause-chosen : goal.returns-clause-chosen
returns-clause-chosen g = one_value_law

pub returns-clause-stays : goal.returns-clause-stays
returns-clause-stays g = chosen_value_stays_law
