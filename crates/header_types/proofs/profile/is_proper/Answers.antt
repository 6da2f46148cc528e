use Rattle.std.proofs.Common.{rules}
use Rattle.header_types.proofs.profile.is_proper.Goals as goal

pub returns-then-allows_children : goal.returns-then-allows_children
returns-then-allows_children c = search rules steps 300000

pub returns-else-allows_children : goal.returns-else-allows_children
returns-else-allows_children c = search rules steps 300000
