use Rattle.std.proofs.Common.{sym, subst, ◌<◌}
use Rattle.batch_lengths.proofs.Eights.{whole_alike, even_some, even_alike, odd_some, odd_alike}
use Rattle.batch_lengths.proofs.bits.lowest_alike.Goals as goal

pub returns-then-byte-eq255-clause-alike : goal.returns-then-byte-eq255-clause-alike
returns-then-byte-eq255-clause-alike c = whole_alike c.args.byte c.if-byte-eq255.either

pub returns-then-byte-eq0-2-clause-some : goal.returns-then-byte-eq0-2-clause-some
returns-then-byte-eq0-2-clause-some c = even_some c.args.byte c.ranges.byte.fits c.if-byte-eq255.false.0 c.if-byte-eq0-2.true

pub returns-then-byte-eq0-2-clause-alike : goal.returns-then-byte-eq0-2-clause-alike
returns-then-byte-eq0-2-clause-alike c = even_alike c.args.byte c.ranges.byte.fits c.if-byte-eq255.false.0 c.if-byte-eq0-2.true

pub returns-else-byte-eq0-2-clause-some : goal.returns-else-byte-eq0-2-clause-some
returns-else-byte-eq0-2-clause-some c =
    subst (λ n. 0 < n) (sym c.trailing_ones.ensures) (odd_some c.args.byte c.ranges.byte.fits c.if-byte-eq255.false.1 c.if-byte-eq0-2.false)

pub returns-else-byte-eq0-2-clause-alike : goal.returns-else-byte-eq0-2-clause-alike
returns-else-byte-eq0-2-clause-alike c i below =
    odd_alike c.args.byte c.ranges.byte.fits c.if-byte-eq255.false.1 c.if-byte-eq0-2.false i
    (subst (λ n. i < n) c.trailing_ones.ensures below)
