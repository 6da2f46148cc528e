use Rattle.decided_log.proofs.Lookups.{one_prefix, keeps_value, grown}
use Rattle.decided_log.proofs.laws.prefixes_are_one.Goals as goal

pub returns-clause-one : goal.returns-clause-one
returns-clause-one c = one_prefix

pub returns-clause-grows : goal.returns-clause-grows
returns-clause-grows c = λ old new slot value xs ys step is_xs is_ys. grown old new xs ys (keeps_value old new slot value step) is_xs is_ys
