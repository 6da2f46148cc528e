use Rattle.agreement_rules.proofs.Replies.{prepare_answered, accept_answered}
use Rattle.agreement_rules.proofs.laws.answers_are_by_the_records.Goals as goal

pub returns-clause-prepare : goal.returns-clause-prepare
returns-clause-prepare c = λ config me views standing sender slot ballot plan restored due.
    prepare_answered c.restored_is_one.ensures.promises c.restored_is_one.ensures.acceptances me views standing restored slot plan config sender ballot due

pub returns-clause-accept : goal.returns-clause-accept
returns-clause-accept c = λ config me views standing sender slot proposal plan restored due.
    accept_answered c.restored_is_one.ensures.promises me views standing restored slot plan config sender proposal due
