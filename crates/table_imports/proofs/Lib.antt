pub mod RowSteps
pub mod ImportSteps
pub mod CanonSteps
