use Rattle.grpc_frames.proofs.FrameJudgement.{faults_stand_apart, no_fault_at_a_frame, no_fault_at_the_end}
use Rattle.grpc_frames.proofs.laws.faults_stand_apart.Goals as goal

pub returns-clause-apart : goal.returns-clause-apart
returns-clause-apart c = faults_stand_apart

pub returns-clause-frame : goal.returns-clause-frame
returns-clause-frame c = no_fault_at_a_frame

pub returns-clause-end : goal.returns-clause-end
returns-clause-end c = no_fault_at_the_end
