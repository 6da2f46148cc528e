use Rattle.std.proofs.Common.{◌≡◌, subst, rules}
use Rattle.decided_log.specs.Keeping.{Takes}
use Rattle.decided_log.proofs.Lookups.{apart_is_false}
use Rattle.decided_log.proofs.steps.take_later.Goals as goal

pub returns-clause-takes : goal.returns-clause-takes
returns-clause-takes c =
    let same : c.in_ok-slot.slot ≡ c.args.number = search rules steps 300000 in
    subst (Takes c.args.later.now.entries c.swap_remove.new.self.entries) same (record {
      gone = c.swap_remove.ensures.updates.1;
      others = λ other apart. c.swap_remove.ensures.updates.2 other (apart_is_false c.in_ok-slot.slot other apart);
    })
