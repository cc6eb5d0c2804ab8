pub mod Arguments
pub mod ArgumentLaws
