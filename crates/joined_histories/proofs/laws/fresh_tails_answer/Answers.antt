use Rattle.joined_histories.proofs.Fresh.{fresh_tail}
use Rattle.joined_histories.proofs.laws.fresh_tails_answer.Goals as goal

pub returns : goal.returns
returns c = λ config start seats before tail recovered i j node number version text upload given precedes reaches is_text told early still le asked.
    fresh_tail c.fresh_answers.ensures before tail
    (c.joined_histories_follow.ensures.follows config start seats before tail recovered precedes reaches) i j node number version text upload given is_text told early still le asked
