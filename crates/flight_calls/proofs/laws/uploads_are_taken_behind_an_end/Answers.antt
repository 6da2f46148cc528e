use Rattle.flight_calls.proofs.Calls.{taken_behind_an_end}
use Rattle.flight_calls.proofs.laws.uploads_are_taken_behind_an_end.Goals as goal

pub returns : goal.returns
returns g c text rest old new reply due =
    let b = g.B.Backend in
    taken_behind_an_end b.may_answer b.handed b.leaves b.stays text rest old new reply due
