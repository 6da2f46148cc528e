use Rattle.std.proofs.Common.{sym, ◌∙◌}
use Rattle.proposer.proofs.attempt.Attempt.count_from.Goals as goal

pub returns-clause-counts : goal.returns-clause-counts
returns-clause-counts c = λ candidate promises promise by_sender report was.
    c.count.ensures.counts candidate promises promise by_sender (report ∙ sym (c.take-report.ensures.value c.requires.rise))
    (record { senders = was.senders; choice = was.choice })

pub returns-clause-gives : goal.returns-clause-gives
returns-clause-gives c = λ candidate promises promise by_sender report was.
    c.count.ensures.gives candidate promises promise by_sender (report ∙ sym (c.take-report.ensures.value c.requires.rise))
    (record { senders = was.senders; choice = was.choice })
