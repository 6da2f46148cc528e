use Rattle.chosen_records.proofs.Majorities.{chosen_of_told}
use Rattle.chosen_records.proofs.laws.told_where_chosen.Goals as goal

pub returns : goal.returns
returns c = chosen_of_told
