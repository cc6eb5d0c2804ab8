pub mod Six
pub mod Two
