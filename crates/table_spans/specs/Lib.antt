pub mod Siblings
pub mod Walked
