pub mod LayoutSteps
