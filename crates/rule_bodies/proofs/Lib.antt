pub mod BodySteps
pub mod CaptureSteps
