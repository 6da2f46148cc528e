use Rattle.std.proofs.Common.{nat_eq, refl, sym, ap, ◌∙◌, rules}
use Rattle.indexmap.specs.IndexMap.{get}
use Rattle.learner.proofs.Lookups.{apart_is_false, room_here, counts}
use Rattle.learner.proofs.state.State.count.Goals as goal

pub count_in-requires : goal.count_in-requires
count_in-requires c =
    room_here (get nat_eq c.self.inside.tallies c.args.slot) c.requires.tallies c.in-Some.tallies.now c.args.ballot
    (ap (λ h. get nat_eq h.tallies c.args.slot) c.self.view_is ∙ c.requires.here) c.in-Some.ensures.value c.requires.room

pub returns : goal.returns
returns c =
    let updates = (c.get_mut.follows.holds c.count_in.new.tallies).3 (search rules) in
    rw (← c.self.view_is)
    (counts _ _ c.args.acceptor c.args.slot c.args.ballot c.args.value c.in-Some.tallies.now c.count_in.new.tallies refl refl (sym c.in-Some.ensures.value) updates.1
    (λ s differs. updates.2 s (apart_is_false c.args.slot s differs)) c.count_in.ensures.here c.count_in.ensures.others)
