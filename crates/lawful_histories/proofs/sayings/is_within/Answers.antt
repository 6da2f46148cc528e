use Rattle.std.proofs.Common.{rules}
use Rattle.lawful_histories.proofs.sayings.is_within.Goals as goal

pub returns-in_default-None : goal.returns-in_default-None
returns-in_default-None c = search rules steps 300000

pub returns-in-None-Some : goal.returns-in-None-Some
returns-in-None-Some c = search rules steps 300000

pub returns-in-Some-Some : goal.returns-in-Some-Some
returns-in-Some-Some c = search rules steps 300000
