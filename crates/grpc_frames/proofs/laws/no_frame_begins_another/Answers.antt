use Rattle.grpc_frames.proofs.FrameTexts.{no_frame_begins_another}
use Rattle.grpc_frames.proofs.laws.no_frame_begins_another.Goals as goal

pub returns : goal.returns
returns c = no_frame_begins_another
