use Rattle.disk_records.proofs.CallerLemmas.{means_same, closed_means}
use Rattle.disk_records.proofs.laws.files_mean_one.Goals as goal

pub returns-clause-records : goal.returns-clause-records
returns-clause-records c = means_same c.records_are_one.ensures

pub returns-clause-closed : goal.returns-clause-closed
returns-clause-closed c = closed_means
