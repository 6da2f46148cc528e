use Rattle.std.proofs.Common.{rules}
use Rattle.ballots.proofs.value.UploadBytesPartialEq.eq.Goals as goal

pub returns : goal.returns
returns c = search rules steps 300000
