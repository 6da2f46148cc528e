use Rattle.std.proofs.Common.{arith}
use Rattle.std.proofs.lemmas.Grind.{common_steps}
use Rattle.proposer.proofs.Answering.{closed_by, held_on}
use Rattle.proposer.proofs.proposer.end_at.Goals as goal

pub returns-then-is_at-clause-stands : goal.returns-then-is_at-clause-stands
returns-then-is_at-clause-stands c = λ members calls holds.
    closed_by members calls c.args.held.now c.args.slot c.args.ballot (c.is_at.ensures.0 c.if-is_at.true) holds

pub returns-else-is_at-clause-stands : goal.returns-else-is_at-clause-stands
returns-else-is_at-clause-stands c = λ members calls holds.
    held_on members calls c.args.held.now c.args.slot c.args.ballot (grind (arith, common_steps)) holds
