use Rattle.joined_histories.specs.Joined.{joined}
use Rattle.joined_histories.proofs.laws.joined_histories_show.Goals as goal

pub returns-clause-up : goal.returns-clause-up
returns-clause-up c = λ config start seats before tail recovered node precedes reaches member.
    let both = c.joined_histories_follow.ensures.precedes config start seats before tail recovered precedes reaches in
    c.up_is_shown.ensures config (joined before tail).sent (joined before tail).steps both.recovered seats node member both.reached

pub returns-clause-prefix : goal.returns-clause-prefix
returns-clause-prefix c = λ config start seats before tail recovered node views values precedes reaches member up.
    let both = c.joined_histories_follow.ensures.precedes config start seats before tail recovered precedes reaches in
    c.prefix_is_shown.ensures config (joined before tail).sent (joined before tail).steps both.recovered seats node views values member both.reached up
