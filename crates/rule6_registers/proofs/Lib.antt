pub mod CanonSteps
pub mod FrontSteps
