use Rattle.ballots.proofs.CallerLemmas.{majorities_meet}
use Rattle.ballots.proofs.laws.majorities_meet.Goals as goal

pub returns-clause-meet : goal.returns-clause-meet
returns-clause-meet c = λ n p q most_p most_q.
    let shared = majorities_meet n p q most_p most_q in
    (shared.member, shared.within, shared.in_first, shared.in_second)
