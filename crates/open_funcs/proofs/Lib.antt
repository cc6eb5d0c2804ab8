pub mod FuncSteps
