pub mod RuleSteps
pub mod InstSteps
