use Rattle.journal_conformance.proofs.from_nothing.steps_of.Goals as goal

pub returns-clause-safe : goal.returns-clause-safe
returns-clause-safe c = c.whole_journals_agree.ensures.safe c.args.journal.now c.starts_as_named.ensures.start c.trace.ensures.followed
