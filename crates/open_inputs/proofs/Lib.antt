pub mod InputsSteps
