pub mod Cases
pub mod DescendsLaws
