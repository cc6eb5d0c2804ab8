pub mod FamilyCalls
pub mod NearestCalls
pub mod LengthCalls
