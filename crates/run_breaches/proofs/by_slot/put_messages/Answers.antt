use Rattle.run_breaches.proofs.Apart.{apart_is_false, same_messages}
use Rattle.run_breaches.proofs.by_slot.put_messages.Goals as goal

pub returns : goal.returns
returns c = record {
  here = same_messages _ _ c.in-Ok.ensures.updates.1;
  others = λ other apart. same_messages _ _ (c.in-Ok.ensures.updates.2 other (apart_is_false c.args.slot other apart));
}
