use Rattle.grpc_frames.specs.FrameFaults.{WhereKnown}
use Rattle.downloads.specs.Taken.{IsReady, HasTaken}
use Rattle.client_calls.specs.Parts.{HasRead}
use Rattle.client_calls.proofs.getting.read_download.Given as goal

abbrev pub invariant-loop-count : goal.invariant-loop-count
invariant-loop-count g l = record {
  ready : IsReady l.downloading;
  came : WhereKnown (g.R.Read.remaining l.initial.r) (g.R.Read.remaining l.r) (HasRead (HasTaken l.downloading) l._count);
}
