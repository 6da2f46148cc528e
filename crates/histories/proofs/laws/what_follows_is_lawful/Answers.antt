use Rattle.histories.proofs.Proposers.{ProposerLaws}
use Rattle.histories.proofs.Dues.{Laws}
use Rattle.histories.proofs.Steps.{follows_is_lawful}
use Rattle.histories.proofs.laws.what_follows_is_lawful.Goals as goal

pub returns : goal.returns
returns c =
    let of_proposer : ProposerLaws = record {
      highest = c.choices_are_one.ensures.highest;
      reports = c.choices_are_one.ensures.reports;
      goes_on = c.attempts_open_and_end.ensures.goes_on;
      attempts = c.answers_are_one.ensures.attempts;
      answers = c.majorities_are_of_members.ensures.answering;
    } in
    let laws : Laws = record {
      proposer = of_proposer;
      learner = c.learned_is_decided_or_chosen.ensures.only;
      asked = c.asked_is_a_run_of_the_prefix.ensures.each;
    } in
    follows_is_lawful laws
