pub mod Indexed
pub mod Inputs
pub mod InputsLaws
