use Rattle.batch_checking.proofs.Spread.{none_outside, rising}
use Rattle.batch_checking.proofs.offsets.row_around.Goals as goal

pub returns-in-None-clause-none : goal.returns-in-None-clause-none
returns-in-None-clause-none c row below stands =
    none_outside c.args.offsets.now c.args.count (rising c.args.offsets.now c.args.count row c.requires.spread below).1 c.args.place row below
    c.in-None.ensures.outside stands
