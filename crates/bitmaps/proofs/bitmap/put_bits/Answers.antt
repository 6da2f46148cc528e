use Rattle.std.proofs.Common.{refl}
use Rattle.bitmaps.proofs.Putting.{pushed_put, pushed_end, fitting_before, fitting_put, fitting_end, crossing_before, crossing_put, crossing_end}
use Rattle.bitmaps.proofs.bitmap.put_bits.Goals as goal

pub returns-then-used-eq0-clause-put : goal.returns-then-used-eq0-clause-put
returns-then-used-eq0-clause-put c = pushed_put _ _ c.args.from c.args.byte c.args.count c.requires.kept c.requires.some c.ranges.byte.fits c.if-used-eq0.true c.push_reserved.ensures.items

pub returns-then-used-eq0-clause-kept : goal.returns-then-used-eq0-clause-kept
returns-then-used-eq0-clause-kept c = pushed_end _ _ c.args.from c.args.byte c.args.count c.requires.kept c.requires.some c.ranges.byte.fits c.if-used-eq0.true c.push_reserved.ensures.items

pub returns-then-used-count-gt8-clause-before : goal.returns-then-used-count-gt8-clause-before
returns-then-used-count-gt8-clause-before c = crossing_before _ _ c.args.from c.args.byte c.args.count _ c.requires.kept c.requires.some c.ranges.byte.fits c.if-used-eq0.false c.if-used-count-gt8.true c.index_mut.ensures.value c.push_reserved-then-used-count-gt8.ensures.items

pub returns-then-used-count-gt8-clause-put : goal.returns-then-used-count-gt8-clause-put
returns-then-used-count-gt8-clause-put c = crossing_put _ _ c.args.from c.args.byte c.args.count _ c.requires.kept c.requires.some c.ranges.byte.fits c.if-used-eq0.false c.if-used-count-gt8.true c.index_mut.ensures.value c.push_reserved-then-used-count-gt8.ensures.items

pub returns-then-used-count-gt8-clause-kept : goal.returns-then-used-count-gt8-clause-kept
returns-then-used-count-gt8-clause-kept c = crossing_end _ _ c.args.from c.args.byte c.args.count _ c.requires.kept c.requires.some c.ranges.byte.fits c.if-used-eq0.false c.if-used-count-gt8.true c.index_mut.ensures.value c.push_reserved-then-used-count-gt8.ensures.items

pub returns-else-used-count-gt8-clause-before : goal.returns-else-used-count-gt8-clause-before
returns-else-used-count-gt8-clause-before c = fitting_before _ _ c.args.from c.args.byte c.args.count _ c.requires.kept c.requires.some c.ranges.byte.fits c.if-used-eq0.false c.if-used-count-gt8.false c.index_mut.ensures.value refl

pub returns-else-used-count-gt8-clause-put : goal.returns-else-used-count-gt8-clause-put
returns-else-used-count-gt8-clause-put c = fitting_put _ _ c.args.from c.args.byte c.args.count _ c.requires.kept c.requires.some c.ranges.byte.fits c.if-used-eq0.false c.if-used-count-gt8.false c.index_mut.ensures.value refl

pub returns-else-used-count-gt8-clause-kept : goal.returns-else-used-count-gt8-clause-kept
returns-else-used-count-gt8-clause-kept c = fitting_end _ _ c.args.from c.args.byte c.args.count _ c.requires.kept c.requires.some c.ranges.byte.fits c.if-used-eq0.false c.if-used-count-gt8.false c.index_mut.ensures.value refl
