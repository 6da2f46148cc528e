use Rattle.std.proofs.lemmas.Result.{IfOk-weaker}
use Rattle.cluster_backend.proofs.running.RunningNodes.tables.Goals as goal

pub returns-clause-all : goal.returns-clause-all
returns-clause-all g c = IfOk-weaker c.tables_at.result _ _ (λ all told. (told.0, told.1, told.1, told.2)) c.tables_at.ensures
