pub mod FamilyCallLaws
pub mod LengthCallLaws
pub mod LengthSample
pub mod NearestCallLaws
pub mod NearestSample
pub mod Sample
