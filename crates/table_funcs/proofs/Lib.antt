pub mod Rules
pub mod Results
pub mod HeadSteps
pub mod MiddleSteps
pub mod TailSteps
pub mod SectionSteps
