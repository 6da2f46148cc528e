use Rattle.std.proofs.Common.{length}
use Rattle.client_calls.proofs.Batches.{StillToSend}
use Rattle.client_calls.proofs.uploading.send_batches.Given as goal

abbrev pub invariant-loop-header : goal.invariant-loop-header
invariant-loop-header g l = StillToSend l.upload l.batches (g.W.Write.contents l.initial.w) (g.W.Write.contents l.w)

abbrev pub decreases-loop-header : goal.decreases-loop-header
decreases-loop-header g l = length l.batches
