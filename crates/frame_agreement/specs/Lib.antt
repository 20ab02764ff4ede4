pub mod FrameRun
pub mod FrameAgreement
