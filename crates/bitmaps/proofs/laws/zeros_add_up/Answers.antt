use Rattle.bitmaps.proofs.PackedForms.{unset_counts, set_counts}
use Rattle.bitmaps.proofs.laws.zeros_add_up.Goals as goal

pub returns-clause-unset : goal.returns-clause-unset
returns-clause-unset c = unset_counts

pub returns-clause-set : goal.returns-clause-set
returns-clause-set c = set_counts
