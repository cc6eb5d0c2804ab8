pub mod CatchLaws
pub mod LinkLaws
pub mod PaintLaws
pub mod PaintSteps
pub mod TableSteps
