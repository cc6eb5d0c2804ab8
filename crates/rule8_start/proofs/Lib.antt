pub mod StartSteps
