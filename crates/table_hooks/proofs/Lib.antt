pub mod BindSteps
