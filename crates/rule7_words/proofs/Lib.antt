pub mod InstSteps
