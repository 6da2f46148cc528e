use Rattle.std.proofs.Common.{rules}
use Rattle.header_types.proofs.profile.timezone_of.Goals as goal

pub returns-in-Timestamp-default-Some : goal.returns-in-Timestamp-default-Some
returns-in-Timestamp-default-Some c = search rules steps 300000

pub returns-in-Null : goal.returns-in-Null
returns-in-Null c = search rules steps 300000
