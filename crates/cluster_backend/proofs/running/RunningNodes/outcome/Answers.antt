use Rattle.cluster_backend.proofs.Asked.{settled_so}
use Rattle.cluster_backend.proofs.running.RunningNodes.outcome.Goals as goal

pub returns-clause-entered : goal.returns-clause-entered
returns-clause-entered g c =
    let of = c.is_of.ensures.0 c.if-not-is_of.false in
    settled_so c.in_ok-settled.settled c.args.node c.args.upload.now c.into_receipt.result c.into_receipt.ensures.asked of.0 of.1
