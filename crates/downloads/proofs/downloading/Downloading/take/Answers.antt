use Rattle.std.proofs.Common.{subst}
use Rattle.downloads.specs.declared.downloading.Downloading.{Downloading}
use Rattle.downloads.specs.Taken.{HasTaken}
use Rattle.downloads.proofs.Come.{still_spoiled}
use Rattle.downloads.proofs.downloading.Downloading.take.Goals as goal

pub returns-in-Spoiled-clause-taken : goal.returns-in-Spoiled-clause-taken
returns-in-Spoiled-clause-taken c = λ messages before fits.
    still_spoiled messages c.args.message.now (subst (λ (d : Downloading). HasTaken d messages) c.in-Spoiled.is before) fits
