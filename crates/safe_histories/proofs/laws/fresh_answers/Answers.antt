use Rattle.safe_histories.proofs.Heard.{ChoiceLaws, LearnerLaws}
use Rattle.safe_histories.proofs.Prefixes.{TableLaws}
use Rattle.safe_histories.proofs.Fresh.{fresh}
use Rattle.safe_histories.proofs.laws.fresh_answers.Goals as goal

pub returns : goal.returns
returns c = λ history i j node number version text upload given follows text_is first lt quiet le second.
    let choice : ChoiceLaws = record { one = c.one_value.ensures.chosen; decided = c.decided_is_one.ensures.chosen } in
    let told = c.learned_is_decided_or_chosen.ensures in
    let learner : LearnerLaws = record { decided = told.decided; chosen = told.chosen; only = told.only } in
    let tables : TableLaws = record { versions = c.tables_grow.ensures.versions; outcomes = c.tables_grow.ensures.outcomes } in
    fresh history follows (c.what_follows_is_lawful.ensures history follows) choice learner tables c.uploads_have_one_encoding.ensures
    c.uploads_count_once.ensures.placed i j node number version text upload given text_is first lt quiet le second
