use Rattle.safe_histories.proofs.Heard.{ChoiceLaws, LearnerLaws}
use Rattle.safe_histories.proofs.Prefixes.{TableLaws}
use Rattle.safe_histories.proofs.Planning.{ProposerLaws}
use Rattle.safe_histories.proofs.Safety.{serves, same_bytes, stands_once}
use Rattle.safe_histories.proofs.Put.{were_put}
use Rattle.safe_histories.proofs.laws.what_follows_is_safe.Goals as goal

pub returns : goal.returns
returns c = λ history follows lawful.
    let choice : ChoiceLaws = record { one = c.one_value.ensures.chosen; decided = c.decided_is_one.ensures.chosen } in
    let told = c.learned_is_decided_or_chosen.ensures in
    let learner : LearnerLaws = record { decided = told.decided; chosen = told.chosen; only = told.only } in
    let tables : TableLaws = record { versions = c.tables_grow.ensures.versions; outcomes = c.tables_grow.ensures.outcomes } in
    let proposer : ProposerLaws = record {
      highest = c.choices_are_one.ensures.highest;
      reports = c.choices_are_one.ensures.reports;
      first = c.senders_count_once.ensures.first;
      answering = c.majorities_are_of_members.ensures.answering;
      answering_from = c.majorities_are_of_members.ensures.answering_from;
    } in
    let counted = c.uploads_count_once.ensures in
    record {
      same_ticket_same_bytes = same_bytes history follows lawful choice learner tables c.uploads_have_one_encoding.ensures;
      acknowledged_stands_once =
          stands_once history follows lawful choice learner tables c.uploads_have_one_encoding.ensures counted.apart counted.placed;
      serves_its_prefix = serves history follows lawful choice learner;
      served_was_put = were_put history follows lawful choice learner proposer c.asked_is_a_run_of_the_prefix.ensures.each;
    }
