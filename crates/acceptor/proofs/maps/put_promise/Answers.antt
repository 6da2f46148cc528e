use Rattle.acceptor.proofs.Lookups.{apart_is_false}
use Rattle.acceptor.proofs.maps.put_promise.Goals as goal

pub returns-clause-puts : goal.returns-clause-puts
returns-clause-puts c = record {
  here = c.in-Ok.ensures.updates.1;
  others = λ other apart. c.in-Ok.ensures.updates.2 other (apart_is_false c.args.slot other apart);
}
