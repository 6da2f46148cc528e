use Rattle.resumed_histories.proofs.Recorded.{sent_is_recorded}
use Rattle.resumed_histories.proofs.laws.what_was_sent_is_recorded.Goals as goal

pub returns : goal.returns
returns c = sent_is_recorded c.records_are_kept.ensures c.replies_are_its_own.ensures.body c.replies_are_its_own.ensures.tick
