use Rattle.resumed_histories.proofs.Accepting.{accepted_was_told, accepted_at_start}
use Rattle.resumed_histories.proofs.laws.accepted_records_were_sent.Goals as goal

pub returns-clause-kept : goal.returns-clause-kept
returns-clause-kept c = accepted_was_told c.records_are_kept.ensures c.replies_are_its_own.ensures.body c.replies_are_its_own.ensures.tick

pub returns-clause-started : goal.returns-clause-started
returns-clause-started c = accepted_at_start c.records_are_kept.ensures c.replies_are_its_own.ensures.body c.replies_are_its_own.ensures.tick
