pub mod Families
pub mod Counted
