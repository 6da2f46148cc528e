use Rattle.std.proofs.Common.{arith}
use Rattle.bitmaps.proofs.Equality.{same_then, same_else}
use Rattle.bitmaps.proofs.bitmap.is_same.Goals as goal

pub returns-then-eq : goal.returns-then-eq
returns-then-eq c =
    same_then c.args.left.now c.args.right.now c.args.length c.args.other (λ i. omega (arith, c.type_inv.left i))
    (λ i. omega (arith, c.type_inv.right i)) c.requires.left c.requires.right c.eq.result c.eq.ensures c.if-eq.true

pub returns-else-eq : goal.returns-else-eq
returns-else-eq c =
    same_else c.args.left.now c.args.right.now c.args.length c.args.other (λ i. omega (arith, c.type_inv.left i))
    (λ i. omega (arith, c.type_inv.right i)) c.requires.left c.requires.right c.eq.result c.eq.ensures c.if-eq.false
