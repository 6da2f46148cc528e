use Rattle.std.proofs.Common.{◌≢◌}
use Rattle.stable_records.specs.declared.fault.StoreFault.{StoreFault}
use Rattle.node_events.specs.Told.{result_of}
use Rattle.stored_nodes.specs.declared.fault.StoredNodeFault.TheVariants.{OutOfMemory, Store, Lost}
use Rattle.stored_nodes.proofs.Applying.{restarted, restart_refused, unchanged}
use Rattle.stored_nodes.proofs.stored_node.StoredNode.restart.Goals as goal

store_is_not : (why : StoreFault) → Store why ≢ OutOfMemory
store_is_not why is = cc

lost_is_not : Lost ≢ OutOfMemory
lost_is_not is = cc

pub returns-in-Ok-clause-gives : goal.returns-in-Ok-clause-gives
returns-in-Ok-clause-gives g c = restarted c.args.self.now c.recover.new.self c.in-Ok.field-0 c.in-Ok.ensures.gives

pub returns-in-Err-OutOfMemory-clause-gives : goal.returns-in-Err-OutOfMemory-clause-gives
returns-in-Err-OutOfMemory-clause-gives g c =
    restart_refused c.args.self.now c.recover.new.self c.refuse_restart.new.self (result_of c.refuse_restart.result) c.in-Err-OutOfMemory.ensures.gives c.refuse_restart.ensures.has c.refuse_restart.ensures.told

pub returns-in-Err-Store-OutOfMemory-clause-gives : goal.returns-in-Err-Store-OutOfMemory-clause-gives
returns-in-Err-Store-OutOfMemory-clause-gives g c =
    restart_refused c.args.self.now c.recover.new.self c.refuse_restart-in-Err-Store-OutOfMemory.new.self (result_of c.refuse_restart-in-Err-Store-OutOfMemory.result)
    c.in-Err-Store-OutOfMemory.ensures.gives c.refuse_restart-in-Err-Store-OutOfMemory.ensures.has c.refuse_restart-in-Err-Store-OutOfMemory.ensures.told

pub returns-in-Err-Store-clause-gives : goal.returns-in-Err-Store-clause-gives
returns-in-Err-Store-clause-gives g c =
    (store_is_not c.in-Err-Store.fault, λ seat before placed stands. unchanged c.args.self.now c.recover.new.self c.in-Err-Store.ensures.gives seat before placed stands)

pub returns-in-Err-Lost-clause-gives : goal.returns-in-Err-Lost-clause-gives
returns-in-Err-Lost-clause-gives g c =
    (lost_is_not, λ seat before placed stands. unchanged c.args.self.now c.recover.new.self c.in-Err-Lost.ensures.gives seat before placed stands)
