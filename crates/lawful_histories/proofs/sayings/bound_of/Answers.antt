use Rattle.std.proofs.Common.{rules}
use Rattle.lawful_histories.proofs.sayings.bound_of.Goals as goal

pub returns-in-Promise : goal.returns-in-Promise
returns-in-Promise c = search rules steps 300000

pub returns-in_default : goal.returns-in_default
returns-in_default c = search rules steps 300000
