pub mod Frame
pub mod FrameFaults
pub mod FrameSteps
pub mod FrameLaws
