use Rattle.run_breaches.proofs.Apart.{apart_is_false, same_messages}
use Rattle.run_breaches.proofs.by_slot.take_messages.Goals as goal

pub returns-in-Some-clause-others : goal.returns-in-Some-clause-others
returns-in-Some-clause-others c = λ other apart. same_messages _ _ (c.swap_remove.ensures.updates.2 other (apart_is_false c.args.slot other apart))
