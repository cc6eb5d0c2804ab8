pub mod StructRules
