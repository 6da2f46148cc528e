use Rattle.std.proofs.Common.{refl}
use Rattle.agreement_rules.proofs.laws.what_waits_changes_alone.Goals as goal

pub returns : goal.returns
returns c = λ views texts. refl
