use Rattle.stored_nodes.proofs.Leaving.{judged_refused}
use Rattle.stored_nodes.proofs.handing.upload_for.Goals as goal

pub returns-in-Some-clause-refused : goal.returns-in-Some-clause-refused
returns-in-Some-clause-refused c = λ views has. judged_refused c.args.node.now views c.args.upload.now c.in-Some.refusal (c.in-Some.ensures views has)
