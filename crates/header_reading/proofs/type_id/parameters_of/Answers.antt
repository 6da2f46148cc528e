use Rattle.std.proofs.Common.{rules}
use Rattle.header_reading.proofs.type_id.parameters_of.Goals as goal

pub returns-in-2-clause-same : goal.returns-in-2-clause-same
returns-in-2-clause-same c = search rules steps 300000

pub returns-in-2-clause-first : goal.returns-in-2-clause-first
returns-in-2-clause-first c = search rules steps 300000

pub returns-in-2-clause-second : goal.returns-in-2-clause-second
returns-in-2-clause-second c = search rules steps 300000

pub returns-in-2-clause-third : goal.returns-in-2-clause-third
returns-in-2-clause-third c = search rules steps 300000

pub returns-in-3-clause-same : goal.returns-in-3-clause-same
returns-in-3-clause-same c = search rules steps 300000

pub returns-in-3-clause-first : goal.returns-in-3-clause-first
returns-in-3-clause-first c = search rules steps 300000

pub returns-in-3-clause-second : goal.returns-in-3-clause-second
returns-in-3-clause-second c = search rules steps 300000

pub returns-in-3-clause-third : goal.returns-in-3-clause-third
returns-in-3-clause-third c = search rules steps 300000

pub returns-in-7-clause-same : goal.returns-in-7-clause-same
returns-in-7-clause-same c = search rules steps 300000

pub returns-in-7-clause-first : goal.returns-in-7-clause-first
returns-in-7-clause-first c = search rules steps 300000

pub returns-in-7-clause-second : goal.returns-in-7-clause-second
returns-in-7-clause-second c = search rules steps 300000

pub returns-in-7-clause-third : goal.returns-in-7-clause-third
returns-in-7-clause-third c = search rules steps 300000

pub returns-in-8-clause-same : goal.returns-in-8-clause-same
returns-in-8-clause-same c = search rules steps 300000

pub returns-in-8-clause-first : goal.returns-in-8-clause-first
returns-in-8-clause-first c = search rules steps 300000

pub returns-in-8-clause-second : goal.returns-in-8-clause-second
returns-in-8-clause-second c = search rules steps 300000

pub returns-in-8-clause-third : goal.returns-in-8-clause-third
returns-in-8-clause-third c = search rules steps 300000

pub returns-in-9-clause-same : goal.returns-in-9-clause-same
returns-in-9-clause-same c = search rules steps 300000

pub returns-in-9-clause-first : goal.returns-in-9-clause-first
returns-in-9-clause-first c = search rules steps 300000

pub returns-in-9-clause-second : goal.returns-in-9-clause-second
returns-in-9-clause-second c = search rules steps 300000

pub returns-in-9-clause-third : goal.returns-in-9-clause-third
returns-in-9-clause-third c = search rules steps 300000

pub returns-in-15-clause-same : goal.returns-in-15-clause-same
returns-in-15-clause-same c = search rules steps 300000

pub returns-in-15-clause-first : goal.returns-in-15-clause-first
returns-in-15-clause-first c = search rules steps 300000

pub returns-in-15-clause-second : goal.returns-in-15-clause-second
returns-in-15-clause-second c = search rules steps 300000

pub returns-in-15-clause-third : goal.returns-in-15-clause-third
returns-in-15-clause-third c = search rules steps 300000
