use Rattle.std.proofs.lemmas.Result.{IfOk-weaker}
use Rattle.cluster_backend.proofs.running.RunningNodes.latest.Goals as goal

pub returns-clause-latest : goal.returns-clause-latest
returns-clause-latest g c = IfOk-weaker c.latest_at.result _ _ (λ info told. (told.0, told.1, told.1, told.2)) c.latest_at.ensures
