use Rattle.chosen_records.proofs.Majorities.{two_chosen_differ}
use Rattle.chosen_records.proofs.laws.one_ballot_has_one_value.Goals as goal

pub returns : goal.returns
returns c = two_chosen_differ
