pub mod Cover
pub mod MarkSteps
pub mod InstSteps
pub mod CodeSteps
