use Rattle.std.proofs.Common.{subst, ◌+◌, length, arith}
use Rattle.std.proofs.lemmas.Str.{IsUtf8-between}
use Rattle.std.specs.Str.{IsCharBoundary}
use Rattle.batch_types.specs.Placed.{start_of}
use Rattle.batch_checking.proofs.Spread.{value_ends}
use Rattle.batch_checking.proofs.texts.are_parts.Goals as goal

pub returns-in-Ok : goal.returns-in-Ok
returns-in-Ok c = λ yes row below.
    let offsets = c.args.source.now.offsets.now in
    let bytes = c.args.source.now.values.now in
    let ends = value_ends offsets c.args.source.now.length (length bytes) row c.requires.spread below in
    let all = c.are_boundaries.ensures yes in
    let same = c.in-Ok.ensures.0 in
    IsUtf8-between bytes (start_of 4 offsets row) (start_of 4 offsets (row + 1)) c.in-Ok.ensures.1 ends.0
    (subst (λ l. IsCharBoundary l (start_of 4 offsets row)) same (all row (omega (arith, below))))
    (subst (λ l. IsCharBoundary l (start_of 4 offsets (row + 1))) same (all (row + 1) (omega (arith, below))))
