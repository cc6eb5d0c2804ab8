pub mod FrameSteps
pub mod ShapeSteps
