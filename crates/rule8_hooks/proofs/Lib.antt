pub mod FitSteps
pub mod BoundSteps
pub mod HookSteps
