use Rattle.grpc_frames.proofs.FrameJudgement.{each_text_is_judged}
use Rattle.grpc_frames.proofs.laws.each_text_is_judged.Goals as goal

pub returns : goal.returns
returns c = each_text_is_judged
