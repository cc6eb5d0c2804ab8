pub mod Sizes
pub mod ValueRules
pub mod NumberRules
