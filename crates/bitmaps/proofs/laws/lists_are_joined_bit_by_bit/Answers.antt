use Rattle.bitmaps.proofs.JoinedForms.{both_set, one_set, both_long, one_long}
use Rattle.bitmaps.proofs.laws.lists_are_joined_bit_by_bit.Goals as goal

pub returns-clause-both : goal.returns-clause-both
returns-clause-both c = both_set

pub returns-clause-one : goal.returns-clause-one
returns-clause-one c = one_set

pub returns-clause-long_both : goal.returns-clause-long_both
returns-clause-long_both c = both_long

pub returns-clause-long_one : goal.returns-clause-long_one
returns-clause-long_one c = one_long
