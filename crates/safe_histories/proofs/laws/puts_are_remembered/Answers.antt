use Rattle.safe_histories.proofs.Shown.{put_is_remembered}
use Rattle.safe_histories.proofs.laws.puts_are_remembered.Goals as goal

pub returns : goal.returns
returns c = put_is_remembered
