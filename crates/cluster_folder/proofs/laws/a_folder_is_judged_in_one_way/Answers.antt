use Rattle.cluster_folder.proofs.Judged.{judged_same}
use Rattle.cluster_folder.proofs.laws.a_folder_is_judged_in_one_way.Goals as goal

pub returns : goal.returns
returns c = judged_same
