pub mod LinkSteps
pub mod BlankSteps
pub mod WalkSteps
pub mod Section
