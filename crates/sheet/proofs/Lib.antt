pub mod EditionLaws
pub mod FuncCodes
pub mod ModuleCodes
pub mod SheetLaws
pub mod SizeLaws
pub mod TypeCodes
pub mod DecodedTheorems
