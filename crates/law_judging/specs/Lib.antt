pub mod Judging
pub mod Clearing
pub mod Each
