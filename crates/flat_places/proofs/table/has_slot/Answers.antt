use Rattle.std.proofs.Common.{rules}
use Rattle.flat_places.proofs.table.has_slot.Goals as goal

pub returns : goal.returns
returns c = search rules steps 300000
