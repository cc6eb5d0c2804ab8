pub mod TextReading
pub mod Records
pub mod FrameLaws
pub mod LoopLaws
pub mod ReadLaws
pub mod RecordSteps
pub mod SizeLaws
pub mod ListLaws
