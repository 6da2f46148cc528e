use Rattle.grpc_frames.proofs.FrameTexts.{frames_are_one}
use Rattle.grpc_frames.proofs.laws.frames_are_one.Goals as goal

pub returns : goal.returns
returns c = frames_are_one
