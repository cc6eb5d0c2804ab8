pub mod Room
pub mod KindLaws
pub mod LoadLaws
pub mod RuleKinds
pub mod SliceLaws
