pub mod SigSteps
pub mod DynSteps
