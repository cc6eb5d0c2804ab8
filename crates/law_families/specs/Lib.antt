pub mod Ancestors
pub mod Chains
pub mod FamilyLaws
pub mod Depths
pub mod NearestLaws
