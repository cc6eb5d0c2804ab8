pub mod Layout
pub mod Parts
pub mod LayoutLaws
pub mod Opened
