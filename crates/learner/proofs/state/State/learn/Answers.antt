use Rattle.std.proofs.Common.{refl, ap}
use Rattle.std.specs.Option.{option_map, option_and_then}
use Rattle.learner.specs.State.{tally_in}
use Rattle.learner.proofs.Lookups.{apart_is_false}
use Rattle.learner.proofs.state.State.learn.Goals as goal

pub returns : goal.returns
returns c = rw (← c.self.view_is) (record {
  members = refl;
  here = c.in-Ok.ensures.updates.1;
  gone = λ b. ap (λ o. option_map (λ t. t.value) (option_and_then (λ t. tally_in t b) o)) c.swap_remove.ensures.updates.1;
  decided = λ s differs. c.in-Ok.ensures.updates.2 s (apart_is_false c.args.slot s differs);
  tallies = λ s b differs. ap (option_and_then (λ t. tally_in t b)) (c.swap_remove.ensures.updates.2 s (apart_is_false c.args.slot s differs));
})
