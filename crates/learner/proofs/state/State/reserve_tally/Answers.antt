use Rattle.std.proofs.Common.{nat_eq, refl, sym, rules}
use Rattle.indexmap.specs.IndexMap.{get}
use Rattle.learner.proofs.Lookups.{apart_is_false, same_at_slot, entries_here}
use Rattle.learner.proofs.state.State.reserve_tally.Goals as goal

pub returns-clause-same : goal.returns-clause-same
returns-clause-same c =
    let updates = (c.get_mut.follows.holds c.make_tally_room.new.tallies).3 (search rules) in
    let old = get nat_eq c.self.inside.tallies c.args.slot in
    let new = get nat_eq (c.get_mut.follows.lender c.make_tally_room.new.tallies) c.args.slot in
    rw (← c.self.view_is)
    (same_at_slot _ _ c.args.slot refl refl (λ s differs. updates.2 s (apart_is_false c.args.slot s differs))
    (λ b. entries_here old new c.in-Some.tallies.now c.make_tally_room.new.tallies b (sym c.in-Some.ensures.value) updates.1 c.make_tally_room.ensures.same))
