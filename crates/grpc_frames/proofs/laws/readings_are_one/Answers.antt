use Rattle.grpc_frames.proofs.FrameJudgement.{readings_are_one}
use Rattle.grpc_frames.proofs.laws.readings_are_one.Goals as goal

pub returns : goal.returns
returns c = readings_are_one
