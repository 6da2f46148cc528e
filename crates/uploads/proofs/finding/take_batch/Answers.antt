use Rattle.uploads.proofs.Fronts.{batch_only}
use Rattle.uploads.proofs.finding.take_batch.Goals as goal

pub returns-clause-only : goal.returns-clause-only
returns-clause-only c =
    batch_only c.args.batch.now c.in_ok-header.header.now c.in_ok-header.rest.now c.in_ok-body.body.now c.in_ok-header.ensures.only c.in_ok-body.ensures.only
