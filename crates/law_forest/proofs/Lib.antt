pub mod LimitLaws
pub mod AcceptedLaws
