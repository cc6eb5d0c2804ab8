pub mod KindSteps
pub mod TypeSteps
