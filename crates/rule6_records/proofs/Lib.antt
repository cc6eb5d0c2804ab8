pub mod RecordSteps
pub mod ParamSteps
