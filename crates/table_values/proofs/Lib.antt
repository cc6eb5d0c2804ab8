pub mod ValueSteps
pub mod PlaceSteps
