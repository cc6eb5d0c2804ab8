pub mod ExportSteps
pub mod NameSteps
pub mod LoopSteps
