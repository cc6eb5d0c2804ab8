pub mod LinkSteps
pub mod OpenedSteps
