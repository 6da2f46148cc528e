use Rattle.batch_lengths.proofs.Eights.{ones_before, ones_these, ones_behind}
use Rattle.batch_lengths.proofs.bits.ones.Goals as goal

pub returns-clause-before : goal.returns-clause-before
returns-clause-before c = ones_before c.args.low c.args.count c.requires.some c.requires.within

pub returns-clause-these : goal.returns-clause-these
returns-clause-these c = ones_these c.args.low c.args.count c.requires.some c.requires.within

pub returns-clause-behind : goal.returns-clause-behind
returns-clause-behind c = ones_behind c.args.low c.args.count c.requires.some c.requires.within
