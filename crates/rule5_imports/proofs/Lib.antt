pub mod ImportWords
pub mod RuleSteps
pub mod LinkSteps
pub mod ByNumber
