use Rattle.cluster_identity.proofs.Told.{means_one}
use Rattle.cluster_identity.proofs.laws.identities_are_one.Goals as goal

pub returns : goal.returns
returns c = means_one
