pub mod ListSteps
pub mod IndexSteps
pub mod EntrySteps
pub mod PairWays
