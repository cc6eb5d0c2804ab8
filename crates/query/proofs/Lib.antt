pub mod QuerySteps
pub mod SizeSteps
