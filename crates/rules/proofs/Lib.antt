pub mod OrderSteps
