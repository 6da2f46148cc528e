use Rattle.agreement_rules.proofs.Members.{taken_where}
use Rattle.agreement_rules.proofs.laws.messages_are_of_members.Goals as goal

pub returns : goal.returns
returns c = taken_where
