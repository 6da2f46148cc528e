use Rattle.safe_histories.proofs.Unsent.{is_unsent, unsent_is}
use Rattle.safe_histories.proofs.laws.not_sent_is_exact.Goals as goal

pub returns : goal.returns
returns c = λ history place step follows is. (is_unsent history follows place step is, unsent_is history follows place step is)
