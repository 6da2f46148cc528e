use Rattle.agreement_rules.proofs.Told.{told_after}
use Rattle.agreement_rules.proofs.laws.messages_are_told_to_their_part.Goals as goal

pub returns : goal.returns
returns c = λ config me views sender slot said plan due. told_after config me views sender slot plan said due
