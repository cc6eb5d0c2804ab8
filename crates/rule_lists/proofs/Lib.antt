pub mod ReferenceSteps
pub mod ListWords
pub mod ListDefs
pub mod ListSteps
