use Rattle.grpc_frames.proofs.FrameJudgement.{fails_within_the_frame}
use Rattle.grpc_frames.proofs.laws.fails_within_the_frame.Goals as goal

pub returns-clause-within : goal.returns-clause-within
returns-clause-within c = fails_within_the_frame
