pub mod Exact
pub mod Adding
