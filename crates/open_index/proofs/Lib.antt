pub mod Members
pub mod Indexing
pub mod Sides
