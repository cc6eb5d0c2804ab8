pub mod Calls
pub mod EditionCalls
pub mod ExportCalls
pub mod ArgumentCalls
