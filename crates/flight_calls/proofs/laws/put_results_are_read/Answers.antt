use Rattle.flight_calls.proofs.OneReply.{put_reads}
use Rattle.flight_calls.proofs.laws.put_results_are_read.Goals as goal

pub returns : goal.returns
returns c = put_reads c.canonical_messages_are_messages.ensures
