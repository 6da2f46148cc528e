use Rattle.std.proofs.Common.{rules}
use Rattle.header_types.proofs.profile.is_sized.Goals as goal

pub returns-in-Null : goal.returns-in-Null
returns-in-Null c = search rules steps 300000

pub returns-in-FixedSizeBinary : goal.returns-in-FixedSizeBinary
returns-in-FixedSizeBinary c = search rules steps 300000
