pub mod WriteSteps
pub mod Members
pub mod GatherSteps
pub mod NameSteps
