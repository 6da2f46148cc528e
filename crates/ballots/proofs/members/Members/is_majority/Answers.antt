use Rattle.std.proofs.Common.{rules}
use Rattle.ballots.proofs.members.Members.is_majority.Goals as goal

pub returns : goal.returns
returns c = search rules steps 300000
