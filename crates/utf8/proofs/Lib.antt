pub mod Stepping
pub mod Examples
pub mod GrammarLaws
