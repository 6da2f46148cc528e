use Rattle.agreement_rules.proofs.Replies.{ask_answered}
use Rattle.agreement_rules.proofs.laws.an_ask_is_answered_by_the_prefix.Goals as goal

pub returns : goal.returns
returns c =
    let asked = c.asked_is_a_run_of_the_prefix.ensures in
    ask_answered (asked.count, asked.each) c.learned_is_one.ensures.learned
