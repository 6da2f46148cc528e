use Rattle.std.proofs.Common.{nat_eq, refl, sym, ◌∙◌}
use Rattle.indexmap.specs.IndexMap.{get}
use Rattle.learner.proofs.Lookups.{none_is, apart_is_false, same_at_slot, empty_here}
use Rattle.learner.proofs.state.State.make_tallies.Goals as goal

pub returns-clause-same : goal.returns-clause-same
returns-clause-same c =
    let updates = c.in_ok-insert.ensures.updates in
    let old = get nat_eq c.self.inside.tallies c.args.slot in
    let new = get nat_eq c.insert.new.self c.args.slot in
    let none = none_is old (sym c.contains_key.ensures ∙ c.if-contains_key.false) in
    rw (← c.self.view_is)
    (same_at_slot _ _ c.args.slot refl refl (λ s differs. updates.2 s (apart_is_false c.args.slot s differs))
    (λ b. empty_here old new c.in_ok-tallies.tallies b none updates.1 c.in_ok-tallies.ensures.empty))
