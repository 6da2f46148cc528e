use Rattle.flight_calls.proofs.Calls.{ended_hands}
use Rattle.flight_calls.proofs.laws.ended_puts_are_handed.Goals as goal

pub returns : goal.returns
returns g c text rest left upload old new reply call due =
    let b = g.B.Backend in
    ended_hands c.calls_ask_for_one_thing.ensures c.calls_are_not_refused.ensures b.may_answer b.handed b.leaves b.stays text rest left upload old new reply call due
