use Rattle.flight_calls.proofs.OneReply.{replies_one, told_apart}
use Rattle.flight_calls.proofs.laws.replies_are_one.Goals as goal

pub returns-clause-one : goal.returns-clause-one
returns-clause-one c = replies_one c.uploads_have_one_encoding.ensures

pub returns-clause-apart : goal.returns-clause-apart
returns-clause-apart c = told_apart c.refusals_are_told.ensures.named
