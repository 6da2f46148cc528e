pub mod Transfers
pub mod FrameTexts
pub mod FrameParts
pub mod FrameJudgement
