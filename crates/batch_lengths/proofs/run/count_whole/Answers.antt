use Rattle.batch_lengths.proofs.Whole.{whole_counted}
use Rattle.batch_lengths.proofs.run.count_whole.Goals as goal

pub returns : goal.returns
returns c = whole_counted c.args.source.now c.args.start c.args.count c.length_of.result c.requires.whole c.length_of.ensures
