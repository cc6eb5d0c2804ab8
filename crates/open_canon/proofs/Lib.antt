pub mod ScanLaws
pub mod Theorems
pub mod SheetRegions
pub mod WholeScan
