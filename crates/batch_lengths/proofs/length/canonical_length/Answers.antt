use Rattle.std.proofs.Common.{arith}
use Rattle.batch_lengths.proofs.length.canonical_length.Goals as goal

pub length_within-requires-else-len-le-FEW-clause-room : goal.length_within-requires-else-len-le-FEW-clause-room
length_within-requires-else-len-le-FEW-clause-room c =
    omega (arith, c.requires.laid.1.head_kept.1.1.0, c.requires.profile.within.fields_within)
