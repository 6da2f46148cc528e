use Rattle.std.proofs.Common.{refl}
use Rattle.learner.proofs.Lookups.{same_entries, same_twice}
use Rattle.learner.proofs.state.State.make_room.Goals as goal

pub returns-clause-same : goal.returns-clause-same
returns-clause-same c =
    same_twice _ _ _ (same_twice _ _ _ (rw (← c.self.view_is) (same_entries _ _ refl c.reserve.ensures.entries refl)) c.make_tallies.ensures.same) c.reserve_tally.ensures.same
