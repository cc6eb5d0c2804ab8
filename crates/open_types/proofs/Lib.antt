pub mod TypeSteps
