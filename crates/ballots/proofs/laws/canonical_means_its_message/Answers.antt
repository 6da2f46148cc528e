use Rattle.ballots.proofs.Canonical.{canonical_means}
use Rattle.ballots.proofs.laws.canonical_means_its_message.Goals as goal

pub returns : goal.returns
returns c = canonical_means
