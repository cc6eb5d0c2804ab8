pub mod MarkLaws
pub mod MarkSteps
pub mod ReadyMarks
