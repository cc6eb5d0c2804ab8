pub mod Numbers
pub mod Contract
pub mod Least
pub mod ScanSteps
pub mod SheetNumbers
