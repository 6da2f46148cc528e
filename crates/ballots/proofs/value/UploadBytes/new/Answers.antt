use Rattle.std.proofs.Common.{rules}
use Rattle.ballots.proofs.value.UploadBytes.new.Goals as goal

pub returns-clause-within : goal.returns-clause-within
returns-clause-within c = search rules steps 300000

pub returns-clause-value : goal.returns-clause-value
returns-clause-value c = search rules steps 300000
