pub mod NumbersLaws
pub mod Told
