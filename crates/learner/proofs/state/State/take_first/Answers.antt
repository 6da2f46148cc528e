use Rattle.std.proofs.Common.{refl, ap}
use Rattle.std.specs.Option.{option_and_then}
use Rattle.learner.specs.State.{tally_in}
use Rattle.learner.proofs.Lookups.{apart_is_false}
use Rattle.learner.proofs.state.State.take_first.Goals as goal

pub returns-in_err-tally-clause-drops : goal.returns-in_err-tally-clause-drops
returns-in_err-tally-clause-drops c = rw (← c.self.view_is) (record {
  members = refl;
  learned = refl;
  tallies = λ s b differs. ap (option_and_then (λ t. tally_in t b)) (c.swap_remove.ensures.updates.2 s (apart_is_false c.args.slot s differs));
})

pub returns-clause-drops : goal.returns-clause-drops
returns-clause-drops c = rw (← c.self.view_is) (record {
  members = refl;
  learned = refl;
  tallies = λ s b differs. ap (option_and_then (λ t. tally_in t b)) (c.swap_remove.ensures.updates.2 s (apart_is_false c.args.slot s differs));
})
