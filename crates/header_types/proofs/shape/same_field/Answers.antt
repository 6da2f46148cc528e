use Rattle.std.proofs.Common.{rules}
use Rattle.header_types.proofs.shape.same_field.Goals as goal

pub returns-then-same_name : goal.returns-then-same_name
returns-then-same_name c = search rules steps 300000

pub returns-else-same_name : goal.returns-else-same_name
returns-else-same_name c = search rules steps 300000
