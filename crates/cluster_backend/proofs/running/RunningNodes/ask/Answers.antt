use Rattle.std.proofs.Common.{refl}
use Rattle.std.proofs.lemmas.Result.{IfOk-weaker}
use Rattle.cluster_backend.proofs.Asked.{answers_so}
use Rattle.cluster_backend.proofs.running.RunningNodes.ask.Goals as goal

pub returns-clause-entered : goal.returns-clause-entered
returns-clause-entered g c =
    IfOk-weaker c.ask.result _ _ (λ receipt told. ((receipt, told, refl), answers_so told.uploads c.args.query receipt.answer told.answers)) c.ask.ensures
