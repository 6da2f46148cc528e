use Rattle.downloads.proofs.OneShape.{version_downloads}
use Rattle.downloads.proofs.laws.versions_are_downloads.Goals as goal

pub returns : goal.returns
returns c version h = version_downloads version h
