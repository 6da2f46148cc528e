use Rattle.joined_histories.specs.Joined.{joined}
use Rattle.joined_histories.proofs.Joining.{precede, follow}
use Rattle.joined_histories.proofs.laws.joined_histories_follow.Goals as goal

pub returns-clause-precedes : goal.returns-clause-precedes
returns-clause-precedes c = λ config start seats before tail recovered precedes reaches.
    precede c.what_follows_still_follows.ensures config start seats before tail recovered precedes reaches

pub returns-clause-follows : goal.returns-clause-follows
returns-clause-follows c = λ config start seats before tail recovered precedes reaches.
    follow config seats (joined before tail) (precede c.what_follows_still_follows.ensures config start seats before tail recovered precedes reaches)
