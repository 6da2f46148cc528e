use Rattle.header_types.proofs.Unique.{headers_are_one}
use Rattle.header_types.proofs.laws.headers_are_one.Goals as goal

pub returns : goal.returns
returns c = headers_are_one
