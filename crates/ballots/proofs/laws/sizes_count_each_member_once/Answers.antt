use Rattle.ballots.proofs.CallerLemmas.{tally_none, tally_all, tally_with, tally_same}
use Rattle.ballots.proofs.laws.sizes_count_each_member_once.Goals as goal

pub returns-clause-none : goal.returns-clause-none
returns-clause-none c = tally_none

pub returns-clause-all : goal.returns-clause-all
returns-clause-all c = tally_all

pub returns-clause-one_more : goal.returns-clause-one_more
returns-clause-one_more c = tally_with

pub returns-clause-same : goal.returns-clause-same
returns-clause-same c = tally_same
