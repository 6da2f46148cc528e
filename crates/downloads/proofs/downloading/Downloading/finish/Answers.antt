use Rattle.downloads.proofs.Come.{nothing_reached}
use Rattle.downloads.proofs.downloading.Downloading.finish.Goals as goal

pub returns-in-Begun : goal.returns-in-Begun
returns-in-Begun c = λ messages before. nothing_reached c.args.self messages c.in-Begun.is before
