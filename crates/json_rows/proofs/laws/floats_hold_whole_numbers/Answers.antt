use Rattle.json_rows.proofs.Halving.{below_is, doubled_is, even_is, odd_is_not}
use Rattle.json_rows.proofs.laws.floats_hold_whole_numbers.Goals as goal

pub returns-clause-below : goal.returns-clause-below
returns-clause-below c = below_is

pub returns-clause-doubled : goal.returns-clause-doubled
returns-clause-doubled c = doubled_is

pub returns-clause-halved : goal.returns-clause-halved
returns-clause-halved c = λ limit half le is. (even_is limit half le).0 is

pub returns-clause-odd : goal.returns-clause-odd
returns-clause-odd c = odd_is_not
