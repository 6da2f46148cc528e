use Rattle.std.proofs.Common.{rules}
use Rattle.header_types.proofs.profile.allows_children.Goals as goal

pub returns-in-Struct : goal.returns-in-Struct
returns-in-Struct c = search rules steps 300000

pub returns-in-Null : goal.returns-in-Null
returns-in-Null c = search rules steps 300000

pub returns-in-List : goal.returns-in-List
returns-in-List c = search rules steps 300000
