use Rattle.std.proofs.Common.{rules}
use Rattle.header_reading.proofs.type_id.size_of.Goals as goal

pub returns-then-number : goal.returns-then-number
returns-then-number c = search rules steps 300000

pub returns-else-number : goal.returns-else-number
returns-else-number c = search rules steps 300000
