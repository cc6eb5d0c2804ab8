pub mod EntrySteps
pub mod TextSteps
