use Rattle.std.proofs.Common.{arith}
use Rattle.batch_lengths.proofs.Eights.{set_before, set_these, set_behind}
use Rattle.batch_lengths.proofs.bits.set_some.Goals as goal

pub returns-clause-before : goal.returns-clause-before
returns-clause-before c =
    set_before c.args.set.now c.args.start (omega (arith, c.told-set, c.requires.some, c.requires.within)) c.min-some.result c.ones.result
    c.ones.ensures.before c.ones.ensures.these c.ones.ensures.behind

pub returns-clause-these : goal.returns-clause-these
returns-clause-these c k from to =
    set_these c.args.set.now c.args.start (omega (arith, c.told-set, c.requires.some, c.requires.within)) c.min-some.result c.ones.result
    c.ones.ensures.before c.ones.ensures.these c.ones.ensures.behind k from to (omega (arith, c.min-some.ensures))

pub returns-clause-behind : goal.returns-clause-behind
returns-clause-behind c =
    set_behind c.args.set.now c.args.start (omega (arith, c.told-set, c.requires.some, c.requires.within)) c.min-some.result c.ones.result
    c.ones.ensures.before c.ones.ensures.these c.ones.ensures.behind
