pub mod Sizes
pub mod HandlerSteps
pub mod TableSteps
pub mod LastSteps
pub mod PartSteps
