use Rattle.cluster_identity.proofs.Written.{means_written}
use Rattle.cluster_identity.proofs.laws.texts_are_read_back.Goals as goal

pub returns : goal.returns
returns c = means_written
