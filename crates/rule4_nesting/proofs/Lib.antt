pub mod Children
pub mod ByKind
