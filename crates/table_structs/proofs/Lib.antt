pub mod Joins
pub mod StructSteps
