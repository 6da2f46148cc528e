use Rattle.std.proofs.Common.{sym, ◌∙◌, arith}
use Rattle.std.proofs.lemmas.Grind.{common_steps}
use Rattle.proposer.proofs.Highest.{best_is_chosen}
use Rattle.proposer.proofs.Counting.{counts_gone, counts_majority, counts_on, gives_value, gives_none_yet}
use Rattle.proposer.proofs.attempt.Attempt.count.Goals as goal

pub returns-in_err-take-clause-counts : goal.returns-in_err-take-clause-counts
returns-in_err-take-clause-counts c = λ candidate promises promise by_sender reports was.
    counts_gone c.args.members candidate promises promise c.args.self.now c.args.sender c.with-self.result by_sender c.with-self.ensures c.requires was
    c.take.new.self (sym c.take.ensures.value ∙ c.in_err-take.was) c.take.ensures.after

pub returns-then-are_majority-clause-counts : goal.returns-then-are_majority-clause-counts
returns-then-are_majority-clause-counts c = λ candidate promises promise by_sender reports was.
    counts_majority c.args.members candidate promises promise c.args.self.now c.args.sender c.with-self.result by_sender c.with-self.ensures c.requires was
    c.in_ok-take.field-0 c.higher_of-choice.result (sym c.take.ensures.value ∙ c.in_ok-take.was) (rw reports (c.higher_of-choice.ensures candidate _))
    c.take.new.self c.take.ensures.after (c.are_majority.ensures.0 c.if-are_majority.true)

pub returns-then-are_majority-clause-gives : goal.returns-then-are_majority-clause-gives
returns-then-are_majority-clause-gives c = λ candidate promises promise by_sender reports was.
    gives_value c.args.members candidate promises promise c.args.self.now c.args.sender c.with-self.result by_sender c.with-self.ensures c.requires was
    c.in_ok-take.field-0 c.higher_of-choice.result.value (sym c.take.ensures.value ∙ c.in_ok-take.was)
    (rw reports (λ is_best. best_is_chosen candidate _ c.higher_of-choice.result.reported_at c.higher_of-choice.result.value (c.higher_of-choice.ensures candidate _ is_best)))
    (c.are_majority.ensures.0 c.if-are_majority.true)

pub returns-clause-counts : goal.returns-clause-counts
returns-clause-counts c = λ candidate promises promise by_sender reports was.
    counts_on c.args.members candidate promises promise c.args.self.now c.args.sender c.with-self.result by_sender c.with-self.ensures c.requires was
    c.in_ok-take.field-0 c.higher_of-choice.result (sym c.take.ensures.value ∙ c.in_ok-take.was) (rw reports (c.higher_of-choice.ensures candidate _))
    (grind (arith, common_steps))

pub returns-clause-gives : goal.returns-clause-gives
returns-clause-gives c = λ candidate promises promise by_sender reports was.
    gives_none_yet c.args.members candidate promises promise c.args.self.now c.args.sender c.with-self.result by_sender c.with-self.ensures c.requires was
    (grind (arith, common_steps))
