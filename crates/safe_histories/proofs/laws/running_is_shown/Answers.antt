use Rattle.safe_histories.proofs.Down.{refuses_as_down, refuses_as_other, refuses_strangers}
use Rattle.safe_histories.proofs.laws.running_is_shown.Goals as goal

pub returns-clause-down : goal.returns-clause-down
returns-clause-down c = λ history place step follows is. refuses_as_down history follows place step is

pub returns-clause-up : goal.returns-clause-up
returns-clause-up c = λ history place step follows is. refuses_as_other history follows place step is

pub returns-clause-strangers : goal.returns-clause-strangers
returns-clause-strangers c = λ history place step follows is. refuses_strangers history follows place step is
