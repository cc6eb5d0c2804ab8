pub mod ListSteps
pub mod Captures
