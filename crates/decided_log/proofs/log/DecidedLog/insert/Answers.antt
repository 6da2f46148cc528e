use Rattle.std.proofs.Common.{rules}
use Rattle.decided_log.proofs.Lookups.{one_more}
use Rattle.decided_log.proofs.log.DecidedLog.insert.Goals as goal

pub returns-clause-after_all : goal.returns-clause-after_all
returns-clause-after_all c = rw (← c.self.view_is) (one_more _ _ c.args.slot c.args.value c.put.ensures.inserts)

pub put-requires-clause-kept : goal.put-requires-clause-kept
put-requires-clause-kept c = search rules steps 300000

pub put-requires-clause-reserved : goal.put-requires-clause-reserved
put-requires-clause-reserved c = search rules steps 300000

pub put-requires-clause-room : goal.put-requires-clause-room
put-requires-clause-room c = search rules steps 300000

pub invariant_of-self : goal.invariant_of-self
invariant_of-self c = search rules steps 300000

pub returns-clause-inserts : goal.returns-clause-inserts
returns-clause-inserts c = search rules steps 300000

pub returns-clause-room : goal.returns-clause-room
returns-clause-room c = search rules steps 300000

pub returns-clause-node : goal.returns-clause-node
returns-clause-node c = search rules steps 300000
