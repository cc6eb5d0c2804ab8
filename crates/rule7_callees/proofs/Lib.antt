pub mod Words
pub mod CalleeSteps
pub mod KindSteps
