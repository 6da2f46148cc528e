use Rattle.ballots.proofs.RecordCanonical.{canonical_means}
use Rattle.ballots.proofs.laws.canonical_means_its_record.Goals as goal

pub returns : goal.returns
returns c = canonical_means
