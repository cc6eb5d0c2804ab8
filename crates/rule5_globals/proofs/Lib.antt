pub mod GlobalSteps
