pub mod Accepting
pub mod Sheets
pub mod Theorem
