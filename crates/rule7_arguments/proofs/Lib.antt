pub mod ArgumentSteps
