use Rattle.std.proofs.Common.{Some, arith}
use Rattle.std.proofs.lemmas.Grind.{common_steps}
use Rattle.proposer.proofs.Counting.{gives_value, gives_none_yet, not_none}
use Rattle.proposer.proofs.Results.{where_err, where_ok}
use Rattle.proposer.proofs.attempt.Attempt.see_count.Goals as goal

pub returns-then-not-are_majority-clause-gives : goal.returns-then-not-are_majority-clause-gives
returns-then-not-are_majority-clause-gives c = λ candidate promises promise by_sender reports was.
    gives_none_yet c.args.members candidate promises promise c.args.self.now c.args.sender c.with.result by_sender c.with.ensures c.requires was
    (grind (arith, common_steps))

pub returns-clause-memory : goal.returns-clause-memory
returns-clause-memory c = where_err c.copied.result (λ candidate promises promise by_sender reports was.
    not_none c.args.members candidate promises promise c.args.self.now c.args.sender c.with.result by_sender c.with.ensures c.requires was
    c.in-Some.choice c.in-Some.is (c.are_majority.ensures.0 c.if-not-are_majority.false))

pub returns-clause-gives : goal.returns-clause-gives
returns-clause-gives c = where_ok _ c.copied.result (Some c.higher_value.result.now) c.copied.ensures (λ candidate promises promise by_sender reports was.
    gives_value c.args.members candidate promises promise c.args.self.now c.args.sender c.with.result by_sender c.with.ensures c.requires was
    c.in-Some.choice c.higher_value.result.now c.in-Some.is (rw reports (c.higher_value.ensures candidate _))
    (c.are_majority.ensures.0 c.if-not-are_majority.false))
