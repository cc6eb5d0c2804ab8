pub mod LineSteps
pub mod ReportSteps
