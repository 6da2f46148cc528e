use Rattle.std.proofs.lemmas.Result.{on_ok_weaker}
use Rattle.ballots.proofs.RecordCanonical.{canonical_means}
use Rattle.ballots.proofs.Sizes.{record_is_short}
use Rattle.ballots.proofs.record.Record.encode.Goals as goal

pub returns-clause-means : goal.returns-clause-means
returns-clause-means c = rw c.or_undone.ensures.same (on_ok_weaker c.append-appended.result (canonical_means c.args.self.now) c.append-appended.ensures.within)

pub returns-clause-short : goal.returns-clause-short
returns-clause-short c = rw c.or_undone.ensures.same (on_ok_weaker c.append-appended.result (record_is_short c.args.self.now) c.append-appended.ensures.within)
