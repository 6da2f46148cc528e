use Rattle.stored_nodes.proofs.Failing.{fails_for_memory, fails_by_its_store, fails_as_lost, no_put_fails}
use Rattle.stored_nodes.proofs.laws.failures_have_a_cause.Goals as goal

pub returns-clause-memory : goal.returns-clause-memory
returns-clause-memory g c = λ old new seat before after e fails. fails_for_memory old new seat before after e fails

pub returns-clause-store : goal.returns-clause-store
returns-clause-store g c = λ old new seat before after e why fails. fails_by_its_store old new seat before after e why fails

pub returns-clause-lost : goal.returns-clause-lost
returns-clause-lost g c = λ old new seat before after e fails. fails_as_lost old new seat before after e fails

pub returns-clause-put : goal.returns-clause-put
returns-clause-put g c = λ old new seat before after node text why fails. no_put_fails old new seat before after node text why fails
