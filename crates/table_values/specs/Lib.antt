pub mod Values
pub mod ValuesLaws
pub mod SectionLaws
