use Rattle.flight_calls.proofs.Calls.{handed_behind_an_end}
use Rattle.flight_calls.proofs.laws.uploads_are_handed_behind_an_end.Goals as goal

pub returns : goal.returns
returns g c text rest old new reply due =
    handed_behind_an_end g.B.Backend.may_answer g.B.Backend.handed g.B.Backend.leaves g.B.Backend.stays text rest old new reply due
