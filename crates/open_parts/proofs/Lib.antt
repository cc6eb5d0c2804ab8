pub mod ConstSteps
pub mod TailSteps
