pub mod Exports
pub mod MarkLaws
