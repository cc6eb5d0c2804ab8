pub mod Report
pub mod Reported
