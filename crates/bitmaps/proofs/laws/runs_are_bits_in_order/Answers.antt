use Rattle.std.proofs.Common.{false}
use Rattle.bitmaps.proofs.Lists.{length_bits, get_bits}
use Rattle.bitmaps.proofs.Counting.{runs}
use Rattle.bitmaps.proofs.laws.runs_are_bits_in_order.Goals as goal

pub returns-clause-count : goal.returns-clause-count
returns-clause-count c = length_bits

pub returns-clause-each : goal.returns-clause-each
returns-clause-each c = λ bytes start count i within. get_bits bytes start count i false within

pub returns-clause-joined : goal.returns-clause-joined
returns-clause-joined c = runs
